use Rattle.std.proofs.Common.{ℕ, ◌+◌, ◌*◌}
use Rattle.pixel.specs.Bytes.{Painted}
use Rattle.kernel_convolve.specs.Code.{planned_pixel}
use Rattle.kernel_convolve.proofs.sum.sum_pixels.Given as goal

abbrev pub invariant-loop-x : goal.invariant-loop-x
invariant-loop-x l = Painted (λ (z : ℕ). planned_pixel l.plan l.lines (4 * (l.left + z))) 0 0 l.x l.initial.out l.out
