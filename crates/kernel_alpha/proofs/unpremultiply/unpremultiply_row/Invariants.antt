use Prim.Native.Nat.{◌*◌, ◌≤◌}
use Rattle.pixel.specs.Alpha.{straight}
use Rattle.pixel.specs.Bytes.{pixel_at, Painted}
use Rattle.kernel_alpha.proofs.unpremultiply.unpremultiply_row.Given as goal

abbrev pub invariant-loop-x : goal.invariant-loop-x
invariant-loop-x l = (l.x ≤ l.n) × Painted (λ j. straight (pixel_at l.initial.row (4 * j))) 0 0 l.x l.initial.row l.row
