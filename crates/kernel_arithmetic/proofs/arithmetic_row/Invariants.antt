use Prim.Native.Nat.{◌*◌, ◌≤◌}
use Rattle.pixel.specs.Arithmetic.{by_arithmetic}
use Rattle.pixel.specs.Bytes.{pixel_at, Painted}
use Rattle.kernel_arithmetic.proofs.arithmetic_row.Given as goal

abbrev pub invariant-loop-x : goal.invariant-loop-x
invariant-loop-x l = (l.x ≤ l.n) × Painted (λ z. by_arithmetic l.k (pixel_at l.a (4 * z)) (pixel_at l.b (4 * z))) 0 0 l.x l.initial.dst l.dst
