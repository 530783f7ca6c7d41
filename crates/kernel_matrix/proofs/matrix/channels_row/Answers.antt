-- `kernel_matrix::matrix::channels_row` meets its contract: one pixel more in each turn. Assumes nothing.
use mathlib.Core.Path.{refl}
use native.Mathlib.Omega.{arith}
use Rattle.pixel.proofs.PaintedRows.{painted-more}
use Rattle.kernel_matrix.proofs.matrix.channels_row.Goals as goal

pub loop-x-preserved : goal.loop-x-preserved
loop-x-preserved c =
    let L = c.loop-x in
    (omega arith, painted-more _ _ _ _ _ _ _ _ _ (omega arith) (omega arith) refl L.invariant.1 c.channels_at.ensures)
