use mathlib.Core.Path.{◌≡◌}
use Rattle.text.specs.Reading.{line_at}
use Rattle.text.proofs.reader.last_space.Given as goal

abbrev pub invariant-loop-line : goal.invariant-loop-line
invariant-loop-line l = l.at ≡ line_at l.text l.from l._line
