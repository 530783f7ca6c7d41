-- `enter` meets its contract: where there is no line v, its column is 0 there. Assumes nothing.
use mathlib.Core.Path.{sym, ap, ◌∙◌}
use Prim.Native.Nat.{ℕ, ◌+◌, ◌*◌}
use native.Mathlib.Omega.{arith}
use lib.ListN.{get_or}
use Rattle.window.proofs.Numbers.{line-end}
use Rattle.kernel_sums.proofs.FilledRanges.{filled-as, filled-same}
use Rattle.kernel_sums.proofs.FilledParts.{part-byte, part-long}
use Rattle.kernel_sums.proofs.LinesApart.{column-in, column-out}
use Rattle.kernel_sums.proofs.running.enter.Goals as goal

pub returns-then-v-p : goal.returns-then-v-p
returns-then-v-p c =
    let a = c.args in
    let p = a.p in
    let o : ℕ = p.from + a.v * p.n in
    filled-as _ _ _ _ _ _
    (λ i l h. ap (λ (x : ℕ). get_or a.sums.now i 0 + x) (part-byte o p.n a.buf.now i h ∙ sym (column-in a.buf.now p.from p.n p.count i a.v c.if-v-p.true)))
    (rw (part-long o p.n a.buf.now (omega (arith, line-end p.n p.count a.v c.if-v-p.true))) at c.gain.ensures)

pub returns-else-v-p : goal.returns-else-v-p
returns-else-v-p c =
    let a = c.args in
    let p = a.p in
    filled-same _ _ _ _ (λ i l h. omega (arith, column-out a.buf.now p.from p.n p.count i a.v c.if-v-p.false))
