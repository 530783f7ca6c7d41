-- `draw_convolve::stage::load_row` meets its contract. Assumes nothing.
use Rattle.draw_convolve.specs.Staged.{seen}
use Rattle.draw_convolve.proofs.StagedRows.{row_loaded}
use Rattle.draw_convolve.proofs.stage.load_row.Goals as goal

pub returns : goal.returns
returns c = row_loaded (seen c.args.view) c.args.y c.args.view.context.w _ _ _ c.see-shown.ensures.held c.copy_pixels.ensures
