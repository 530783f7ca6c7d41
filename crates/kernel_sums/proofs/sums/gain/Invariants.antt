use Prim.Native.Nat.{◌+◌}
use lib.ListN.{get_or}
use Rattle.window.specs.Store.{Filled}
use Rattle.kernel_sums.proofs.sums.gain.Given as goal

abbrev pub invariant-loop-i : goal.invariant-loop-i
invariant-loop-i l = Filled (λ i. get_or l.initial.sums i 0 + get_or l.line i 0) 0 l.i l.initial.sums l.sums
