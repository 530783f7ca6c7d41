use Prim.Native.Nat.{◌+◌, ◌-◌}
use Rattle.window.specs.Store.{Filled}
use Rattle.kernel_fold.specs.Operation.{operation, together}
use Rattle.kernel_fold.proofs.fold.fold_bytes.Given as goal

abbrev pub invariant-loop-i : goal.invariant-loop-i
invariant-loop-i g l = Filled (λ j. together (operation l.op) l.initial.buf l.first l.others (j - l.to)) l.to (l.to + l.i) l.initial.buf l.buf
