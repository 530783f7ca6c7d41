-- `draw_convolve::stage::stage_row` meets its contract: the row that is unpremultiplied is valid. Assumes nothing.
use Rattle.buffers.proofs.ShownInputs.{drawable-valid}
use Rattle.draw_convolve.specs.Staged.{seen}
use Rattle.draw_convolve.proofs.StagedRows.{row-valid}
use Rattle.draw_convolve.proofs.stage.stage_row.Goals as goal

pub straighten_row-requires-clause-by_index : goal.straighten_row-requires-clause-by_index
straighten_row-requires-clause-by_index c =
    let v = c.args.view in
    let good = (drawable-valid v.context v.source.now v.workspace.now v.pairs.now v.drawable).valid v.input v.allowed in
    λ x l. row-valid (seen v) c.args.y v.context.w _ _ good c.load_row.ensures x l
