-- `layers::steps::redraw_step` meets its contract: its rectangle is drawn. Assumes nothing.
use Rattle.layers.proofs.StepReplacesLayer.{redraw-replaces}
use Rattle.layers.proofs.steps.redraw_step.Goals as goal

pub draw-requires : goal.draw-requires
draw-requires c =
    let R = c.requires.0 in
    record { sized = (R.sized, R.scratch); valid_inputs = (R.inputs, R.earlier, R.bounded); within = c.requires.1.within }

pub returns : goal.returns
returns c =
    let a = c.args in
    record { context_redrawn = redraw-replaces a.context a.step a.region a.source.now a.rect _ _ c.requires.1 c.draw.ensures.step_drawn; work_buffer = c.draw.ensures.work_buffer }
