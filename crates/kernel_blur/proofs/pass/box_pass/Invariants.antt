use Rattle.kernel_blur.proofs.PassLines.{Run}
use Rattle.kernel_blur.proofs.pass.box_pass.Given as goal

abbrev pub invariant-loop-v : goal.invariant-loop-v
invariant-loop-v l = Run l.p l.fn.buf l.fn.sums l.v l.buf l.sums

abbrev pub invariant-loop-v-2 : goal.invariant-loop-v-2
invariant-loop-v-2 l = Run l.p l.fn.buf l.fn.sums l.v l.buf l.sums

abbrev pub invariant-loop-v-3 : goal.invariant-loop-v-3
invariant-loop-v-3 l = Run l.p l.fn.buf l.fn.sums l.v l.buf l.sums
