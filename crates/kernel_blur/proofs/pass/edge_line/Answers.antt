-- `edge_line` meets its contract: the sums are slid in two steps, then divided. Assumes nothing.
use Prim.Native.Nat.{◌+◌, ◌*◌, ◌/◌}
use native.Mathlib.Omega.{arith}
use borrow.Author.Rules.{rules}
use lib.ListN.{get_or}
use Rattle.window.proofs.Numbers.{line-end}
use Rattle.kernel_sums.proofs.FilledParts.{part-long, line-stored}
use Rattle.kernel_sums.proofs.PassColumns.{Bytes}
use Rattle.kernel_blur.proofs.PassLines.{sum_lt, entered, left_le, edge-advanced}
use Rattle.kernel_blur.proofs.pass.edge_line.Goals as goal

pub enter-requires-clause-by_index : goal.enter-requires-clause-by_index
enter-requires-clause-by_index c =
    let a = c.args in
    let bytes : Bytes a.buf.now = search rules in
    sum_lt a.p a.buf.now a.sums.now a.y c.requires.0 c.requires.2 bytes

pub leave-requires-clause-by_index : goal.leave-requires-clause-by_index
leave-requires-clause-by_index c =
    let a = c.args in
    let bytes : Bytes a.buf.now = search rules in
    entered a.p a.buf.now a.sums.now a.y c.requires.0 c.requires.2 bytes _ c.enter.ensures

pub means-requires-clause-by_index : goal.means-requires-clause-by_index
means-requires-clause-by_index c i h =
    let a = c.args in
    let p = a.p in
    let bytes : Bytes a.buf.now = search rules in
    let long = part-long (p.to + a.y * p.n) p.n a.buf.now (omega (arith, line-end p.n p.count a.y c.requires.1, c.requires.0.target)) in
    left_le p a.buf.now a.sums.now a.y c.requires.0 c.requires.2 bytes _ c.enter.ensures _ c.leave.ensures i (omega (arith, long))

pub returns : goal.returns
returns c =
    let a = c.args in
    let p = a.p in
    let bytes : Bytes a.buf.now = search rules in
    edge-advanced p a.buf.now a.sums.now a.y c.requires.0 c.requires.2 bytes _ c.enter.ensures _ c.leave.ensures _
    (line-stored (λ i. get_or c.leave.new.sums i 0 / (p.back + p.ahead + 1)) (p.to + a.y * p.n) p.n _ _ (omega (arith, line-end p.n p.count a.y c.requires.1, c.requires.0.target)) c.means.ensures)
