use Rattle.window.specs.Store.{Filled}
use Rattle.kernel_matrix.specs.Code.{product}
use Rattle.kernel_matrix.proofs.matrix.prepare.Given as goal

abbrev pub invariant-loop-i : goal.invariant-loop-i
invariant-loop-i l = Filled (product l.m) 0 l.i l.initial.table l.table
