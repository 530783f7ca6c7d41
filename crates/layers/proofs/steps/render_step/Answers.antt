-- `layers::steps::render_step` meets its contract: the layer is cleared around the region, and the region drawn. Assumes nothing.
use Rattle.buffers.proofs.DrawnAgrees.{valid-agree}
use Rattle.layers.proofs.StepReplacesLayer.{sized_same, cleared-agree, render-replaces}
use Rattle.layers.proofs.steps.render_step.Goals as goal

pub draw-requires : goal.draw-requires
draw-requires c =
    let a = c.args in
    let R = c.requires in
    let C = c.clear_around.ensures in
    record {
      sized = (sized_same _ _ _ _ _ _ C.long R.sized, R.scratch);
      valid_inputs = (valid-agree a.context.n _ _ (cleared-agree _ _ _ _ _ _ C a.source.now) R.inputs, R.earlier, R.bounded);
      within = R.region;
    }

pub returns : goal.returns
returns c =
    let a = c.args in
    let R = c.requires in
    record { context_rendered = render-replaces a.context a.step a.region a.source.now _ _ _ R.earlier R.region c.clear_around.ensures c.draw.ensures.step_drawn; work_buffer = c.draw.ensures.work_buffer }
