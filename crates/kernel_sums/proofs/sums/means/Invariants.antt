use Prim.Native.Nat.{◌/◌}
use lib.ListN.{get_or}
use Rattle.window.specs.Store.{Filled}
use Rattle.kernel_sums.proofs.sums.means.Given as goal

abbrev pub invariant-loop-i : goal.invariant-loop-i
invariant-loop-i l = Filled (λ i. get_or l.sums i 0 / l.size) 0 l.i l.initial.line l.line
