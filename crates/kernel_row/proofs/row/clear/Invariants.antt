use Rattle.window.specs.Store.{Filled}
use Rattle.kernel_row.proofs.row.clear.Given as goal

abbrev pub invariant-loop-x : goal.invariant-loop-x
invariant-loop-x l = Filled (λ _. 0) 0 l.x-index l.initial.dst l.dst
