-- `kernel_row::row::shift_row` meets its contract: the row shows between the two parting places, and is transparent before and after them.
-- Assumes nothing.
use Rattle.pixel.proofs.PaintedRows.{painted-as, painted-join}
use Rattle.kernel_row.proofs.MovedRows.{moved_before, moved-between, moved-after, moved_none}
use Rattle.kernel_row.proofs.row.shift_row.Goals as goal

pub returns-then-hi-lo : goal.returns-then-hi-lo
returns-then-hi-lo c =
    painted-as _ _ _ _ _ _ _ (moved_none _ _ _ _ _ _ _ _ c.part-lo.ensures c.part-hi.ensures c.if-hi-lo.true)
    c.clear_pixels.ensures

pub returns : goal.returns
returns c =
    let hi = c.part-hi in
    let lo = c.part-lo in
    let row = c.args.src.now in
    painted-join _ _ _ lo.result _ _ _ _ lo.ensures.low lo.ensures.high
    (painted-as _ _ _ _ _ _ _ (moved_before row _ _ _ _ _ _ _ lo.ensures hi.ensures) c.clear_pixels-2.ensures)
    (painted-join _ _ _ hi.result _ _ _ _ hi.ensures.low hi.ensures.high
    (painted-as _ _ _ _ _ _ _ (moved-between row _ _ _ _ _ _ _ lo.ensures hi.ensures) c.copy_pixels.ensures)
    (painted-as _ _ _ _ _ _ _ (moved-after row _ _ _ _ _ _ _ lo.ensures hi.ensures) c.clear_pixels-3.ensures))
