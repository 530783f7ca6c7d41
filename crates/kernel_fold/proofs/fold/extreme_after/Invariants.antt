use mathlib.Core.Path.{◌≡◌}
use lib.ListN.{take}
use Rattle.kernel_fold.specs.Operation.{operation, together}
use Rattle.kernel_fold.proofs.fold.extreme_after.Given as goal

abbrev pub invariant-loop-other : goal.invariant-loop-other
invariant-loop-other g l = l.extreme ≡ together (operation l.op) l.buf l.first (take l.other-index l.other-items) l.i
