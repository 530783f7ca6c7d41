use Rattle.std.proofs.Common.{ℕ, ◌+◌, ◌*◌, get_or}
use Rattle.pixel.specs.Bytes.{Painted}
use Rattle.kernel_convolve.specs.Code.{lowest}
use Rattle.kernel_convolve.proofs.finish.alpha_row.Given as goal

abbrev pub invariant-loop-x : goal.invariant-loop-x
invariant-loop-x l = Painted (λ (z : ℕ). lowest (get_or l.d (4 * z + 3) 0)) 0 0 l.x l.initial.f l.f
