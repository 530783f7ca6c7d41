use mathlib.Core.Path.{◌≡◌}
use mathlib.Core.List.{◌++◌}
use lib.ListN.{take, drop}
use Rattle.text.specs.Reading.{steps_in, line_at}
use Rattle.text.proofs.reader.read.Given as goal

abbrev pub invariant-loop-n : goal.invariant-loop-n
invariant-loop-n l = record {
  at_is : l.at ≡ line_at l.text l.reading.from l.n;
  is : l.list ≡ take l.n (steps_in l.form l.text) ++ drop l.n l.fn.list;
}
