-- `leave` meets its contract: where no line leaves, the window reaches before the first. Assumes nothing.
use mathlib.Core.Path.{sym, ap, ◌∙◌}
use Prim.Native.Nat.{ℕ, ◌+◌, ◌-◌, ◌*◌, ◌<◌}
use native.Mathlib.Omega.{arith}
use lib.ListN.{get_or}
use Rattle.window.proofs.Numbers.{line-end}
use Rattle.window.proofs.BandedPasses.{behind-out}
use Rattle.kernel_sums.specs.Running.{columns}
use Rattle.kernel_sums.proofs.FilledRanges.{filled-as, filled-same}
use Rattle.kernel_sums.proofs.FilledParts.{part-byte, part-long}
use Rattle.kernel_sums.proofs.PassColumns.{leaving}
use Rattle.kernel_sums.proofs.running.leave.Goals as goal

pub lose-requires-clause-by_index : goal.lose-requires-clause-by_index
lose-requires-clause-by_index c i h =
    let a = c.args in
    let p = a.p in
    let o : ℕ = p.from + (a.y - p.back - 1) * p.n in
    let n : i < p.n = omega (arith, part-long o p.n a.buf.now (omega (arith, line-end p.n p.count (a.y - p.back - 1) (omega arith)))) in
    omega (arith, part-byte o p.n a.buf.now i n, leaving p a.buf.now i a.y c.if-p-y.true c.requires.n_in_bounds.2, c.requires.by_index i n)

pub returns-then-p-y : goal.returns-then-p-y
returns-then-p-y c =
    let a = c.args in
    let p = a.p in
    let o : ℕ = p.from + (a.y - p.back - 1) * p.n in
    filled-as _ _ _ _ _ _
    (λ i l h. ap (λ (x : ℕ). get_or a.sums.now i 0 - x) (part-byte o p.n a.buf.now i h ∙ sym (leaving p a.buf.now i a.y c.if-p-y.true c.requires.n_in_bounds.2)))
    (rw (part-long o p.n a.buf.now (omega (arith, line-end p.n p.count (a.y - p.back - 1) (omega arith)))) at c.lose.ensures)

pub returns-else-p-y : goal.returns-else-p-y
returns-else-p-y c =
    let a = c.args in
    filled-same _ _ _ _ (λ i l h. omega (arith, behind-out (a.p.back + 1) (columns a.p a.buf.now i) a.y (omega arith)))
