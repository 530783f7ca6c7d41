use Prim.Native.Nat.{◌+◌}
use lib.ListN.{get_or}
use Rattle.window.specs.Store.{Filled}
use Rattle.kernel_blur.proofs.rows.copy_row.Given as goal

abbrev pub invariant-loop-k : goal.invariant-loop-k
invariant-loop-k l = Filled (λ t. get_or l.src (l.i + t) 0) 0 l.k l.initial.x-items l.x-items
