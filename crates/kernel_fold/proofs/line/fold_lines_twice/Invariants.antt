use Rattle.window.specs.Store.{Lined}
use Rattle.kernel_fold.specs.Lines.{twice_between}
use Rattle.kernel_fold.proofs.line.fold_lines_twice.Given as goal

abbrev pub invariant-loop-v : goal.invariant-loop-v
invariant-loop-v l = Lined (twice_between l.op l.initial.buf l.lines l.one l.two) l.lines.to l.lines.n l.v l.initial.buf l.buf
