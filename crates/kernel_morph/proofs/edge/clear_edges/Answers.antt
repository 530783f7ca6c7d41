-- `clear_edges` meets its contract: the first and the last lines are two ranges of bytes. Assumes nothing.
use Prim.Native.Nat.{◌+◌, ◌-◌, ◌*◌, ◌≤◌}
use native.Mathlib.Nat.{mul-le-mul_right}
use native.Mathlib.Omega.{arith}
use Rattle.kernel_morph.proofs.Zeros.{zeros}
use Rattle.kernel_morph.proofs.PingPongGrowth.{cleared}
use Rattle.kernel_morph.proofs.edge.clear_edges.Goals as goal

pub returns : goal.returns
returns c =
    let a = c.args in
    let room : c.min.result * a.n ≤ a.count * a.n = mul-le-mul_right a.n (omega (arith, c.min.ensures)) in
    let F = zeros a.o (a.o + c.min.result * a.n) a.buf.now c.fill.new.self (omega arith) (omega (arith, room)) (c.fill.ensures.after (λ y e. e)) in
    cleared _ _ _ _ _ _ _ _ _ _ c.min.ensures c.min-2.ensures F
    (zeros (a.o + a.count * a.n - c.min-2.result * a.n) (a.o + a.count * a.n) _ c.fill-2.new.self (omega arith) (omega (arith, F.long)) (c.fill-2.ensures.after (λ y e. e)))
