-- `kernel_remap::few::remap_few` meets its contract: one pixel more in each turn. Assumes nothing.
use native.Mathlib.Omega.{arith}
use Rattle.pixel.proofs.PaintedRows.{painted-more}
use Rattle.kernel_remap.proofs.few.remap_few.Goals as goal

pub loop-x-preserved : goal.loop-x-preserved
loop-x-preserved c =
    let L = c.loop-x in
    (omega arith, painted-more _ _ _ _ _ _ _ _ _ (omega arith) (omega arith) c.remap_at-v.ensures.holds L.invariant.1 c.put.ensures)
