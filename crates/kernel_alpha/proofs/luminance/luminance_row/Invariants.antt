use Prim.Native.Nat.{◌*◌, ◌≤◌}
use Rattle.pixel.specs.Bytes.{pixel_at, Painted}
use Rattle.pixel.specs.Matrix.{luminance, by_matrix}
use Rattle.kernel_alpha.proofs.luminance.luminance_row.Given as goal

abbrev pub invariant-loop-x : goal.invariant-loop-x
invariant-loop-x l = (l.x ≤ l.n) × Painted (λ z. by_matrix luminance (pixel_at l.src (4 * z))) 0 0 l.x l.initial.dst l.dst
