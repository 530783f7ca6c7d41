-- `gather_rows` meets its contract: each turn copies one lane. Assumes nothing.
use Rattle.draw_blur.proofs.RowsAsLanes.{gathered-more}
use Rattle.draw_blur.proofs.lanes.gather_rows.Goals as goal

pub loop-k-preserved : goal.loop-k-preserved
loop-k-preserved c = gathered-more _ _ _ _ _ _ _ _ c.loop-k.invariant c.copy_rows.ensures
