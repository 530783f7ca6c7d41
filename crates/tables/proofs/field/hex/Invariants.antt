use Rattle.std.proofs.Common.{◌≡◌}
use Rattle.tables.specs.Hex.{hex_of}
use Rattle.tables.proofs.field.hex.Given as goal

abbrev pub invariant-loop-x : goal.invariant-loop-x
invariant-loop-x l = l.value ≡ hex_of l.line l.at l.x-index
