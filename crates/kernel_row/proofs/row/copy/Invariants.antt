use Rattle.std.proofs.Common.{get_or}
use Rattle.window.specs.Store.{Filled}
use Rattle.kernel_row.proofs.row.copy.Given as goal

abbrev pub invariant-loop-i : goal.invariant-loop-i
invariant-loop-i l = Filled (λ j. get_or l.src j 0) 0 l.i l.initial.dst l.dst
