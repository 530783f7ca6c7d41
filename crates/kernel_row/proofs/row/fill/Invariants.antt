use Rattle.std.proofs.Common.{◌≤◌}
use Rattle.pixel.specs.Bytes.{Painted}
use Rattle.pixel.specs.Word.{unpacked}
use Rattle.kernel_row.proofs.row.fill.Given as goal

abbrev pub invariant-loop-x : goal.invariant-loop-x
invariant-loop-x l = (l.x ≤ l.n) × Painted (λ _. unpacked l.v) 0 0 l.x l.initial.dst l.dst
