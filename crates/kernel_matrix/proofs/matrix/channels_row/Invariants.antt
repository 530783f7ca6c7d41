use Prim.Native.Nat.{◌*◌, ◌≤◌}
use Rattle.pixel.specs.Bytes.{pixel_at, Painted}
use Rattle.kernel_matrix.specs.Code.{by_rows}
use Rattle.kernel_matrix.proofs.matrix.channels_row.Given as goal

abbrev pub invariant-loop-x : goal.invariant-loop-x
invariant-loop-x l = (l.x ≤ l.n) × Painted (λ z. by_rows l.m (pixel_at l.src (4 * z))) 0 0 l.x l.initial.dst l.dst
