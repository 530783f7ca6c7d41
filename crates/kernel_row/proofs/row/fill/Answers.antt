-- `kernel_row::row::fill` meets its contract: each turn paints one more pixel. Assumes nothing.
use Rattle.std.proofs.Common.{refl, arith}
use Rattle.pixel.proofs.PaintedRows.{painted-more}
use Rattle.kernel_row.proofs.row.fill.Goals as goal

pub loop-x-preserved : goal.loop-x-preserved
loop-x-preserved c =
    (omega arith, painted-more _ _ 0 _ 0 c.loop-x.x _ _ _ (omega arith) (omega arith) refl c.loop-x.invariant.1 c.put.ensures)
