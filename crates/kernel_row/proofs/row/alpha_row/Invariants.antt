use Rattle.std.proofs.Common.{◌*◌, ◌≤◌}
use Rattle.pixel.specs.Bytes.{pixel_at, Painted}
use Rattle.kernel_row.specs.Row.{alpha_only}
use Rattle.kernel_row.proofs.row.alpha_row.Given as goal

abbrev pub invariant-loop-x : goal.invariant-loop-x
invariant-loop-x l = (l.x ≤ l.n) × Painted (λ t. alpha_only (pixel_at l.src (4 * t))) 0 0 l.x l.initial.dst l.dst
