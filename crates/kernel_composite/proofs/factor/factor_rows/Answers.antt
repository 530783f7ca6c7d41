-- `kernel_composite::factor::factor_rows` meets its contract: each arm stores the factors that its operator varies. Assumes nothing.
use Rattle.kernel_composite.proofs.FactorRows.{over-rows, in_rows, out-rows, atop-rows, xor-rows}
use Rattle.kernel_composite.proofs.factor.factor_rows.Goals as goal

pub returns-in-Over : goal.returns-in-Over
returns-in-Over c =
    let s = c.args in
    rw c.in-Over.is (over-rows s.a.now s.b.now s.n s.f.now _ s.f.now _ c.inverse_alphas.ensures)

pub returns-in-In : goal.returns-in-In
returns-in-In c =
    let s = c.args in
    rw c.in-In.is (in_rows s.a.now s.b.now s.n _ s.g.now _ s.g.now c.alphas.ensures)

pub returns-in-Out : goal.returns-in-Out
returns-in-Out c =
    let s = c.args in
    rw c.in-Out.is (out-rows s.a.now s.b.now s.n _ s.g.now _ s.g.now c.inverse_alphas-in-Out.ensures)

pub returns-in-Atop : goal.returns-in-Atop
returns-in-Atop c =
    let s = c.args in
    rw c.in-Atop.is (atop-rows s.a.now s.b.now s.n _ _ _ _ c.alphas-in-Atop.ensures c.inverse_alphas-in-Atop.ensures)

pub returns-in-Xor : goal.returns-in-Xor
returns-in-Xor c =
    let s = c.args in
    rw c.in-Xor.is (xor-rows s.a.now s.b.now s.n _ _ _ _ c.inverse_alphas-in-Xor.ensures c.inverse_alphas-in-Xor-2.ensures)
