use Rattle.std.proofs.Common.{ℕ, ◌+◌, ◌*◌, get_or}
use Rattle.pixel.specs.Bytes.{pixel_at, Painted}
use Rattle.kernel_convolve.specs.Code.{with_alpha}
use Rattle.kernel_convolve.proofs.finish.put_alphas.Given as goal

abbrev pub invariant-loop-x : goal.invariant-loop-x
invariant-loop-x l = Painted (λ (z : ℕ). with_alpha (get_or l.lines (l.own + 4 * z) 0) (pixel_at l.initial.d (4 * z))) 0 0 l.x l.initial.d l.d
