-- `draw_convolve::stage::stage_rows` meets its contract: one row more in each turn. Assumes nothing.
use Rattle.draw_convolve.proofs.StagedRows.{staged-more}
use Rattle.draw_convolve.proofs.stage.stage_rows.Goals as goal

pub loop-y-preserved : goal.loop-y-preserved
loop-y-preserved c = staged-more _ _ _ _ _ _ _ c.loop-y.invariant c.stage_row.ensures
