use Rattle.std.proofs.Common.{ℕ, min, get_or}
use Rattle.window.specs.Store.{Filled}
use Rattle.kernel_convolve.proofs.finish.lesser_row.Given as goal

abbrev pub invariant-loop-i : goal.invariant-loop-i
invariant-loop-i l = Filled (λ (j : ℕ). min (get_or l.initial.d j 0) (get_or l.f j 0)) 0 l.i l.initial.d l.d
