use Prim.Native.Nat.{◌+◌, ◌-◌}
use Rattle.kernel_morph.proofs.PingPongGrowth.{Standing}
use Rattle.kernel_morph.proofs.growth.grow_windows.Given as goal

abbrev pub invariant-loop-now : goal.invariant-loop-now
invariant-loop-now l = Standing l.op l.fn.lines l.whole l.way l.now l.fn.buf l.buf

abbrev pub decreases-loop-now : goal.decreases-loop-now
decreases-loop-now l = l.whole.back + l.whole.ahead - (l.now.back + l.now.ahead)
