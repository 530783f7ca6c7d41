use Prim.Native.Nat.{◌+◌, ◌-◌, ◌/◌}
use Rattle.window.specs.Store.{Filled}
use Rattle.kernel_sums.specs.Running.{slid}
use Rattle.kernel_sums.proofs.sums.slide_line.Given as goal

abbrev pub invariant-loop-i : goal.invariant-loop-i
invariant-loop-i l = record {
  sums : Filled (slid l.fn.sums l.initial.buf l.p l.q) 0 l.i l.initial.sum-items l.sum-items;
  line : Filled (λ j. slid l.fn.sums l.initial.buf l.p l.q (j - l.r) / l.size) l.r (l.r + l.i) l.initial.buf l.buf;
}
