-- `render::draw` meets its contract: checked, drawn, and cleared. Assumes nothing.
use Rattle.std.proofs.Common.{refl}
use Rattle.render.proofs.DrawCall.{steps-ready, result-kept}
use Rattle.render.proofs.draw.Goals as goal

pub draw_steps-drawn-requires-clause-ready_for : goal.draw_steps-drawn-requires-clause-ready_for
draw_steps-drawn-requires-clause-ready_for c =
    let s = c.args in
    let e = c.settle-answer.ensures in
    steps-ready s.call s.sheet s.steps.now s.source.now s.workspace.now s.scratch.now _ _ _ _ c.min-n.ensures c.usable-count.ensures c.check_steps-checked.ensures.answers e.value
    e.all_bytes.0 e.all_bytes.1 c.check_steps-checked.ensures.floods _ c.counted.ensures _ _ refl refl

pub returns : goal.returns
returns c =
    let s = c.args in
    let e = c.settle-answer.ensures in
    let p =
    result-kept s.call s.sheet s.steps.now s.source.now s.workspace.now s.scratch.now _ _ _ _ c.min-n.ensures c.usable-count.ensures c.check_steps-checked.ensures.answers e.value
    e.all_bytes.0 e.all_bytes.1 c.check_steps-checked.ensures.floods _ c.counted.ensures _ _ refl refl
    _ _ _ _ _ c.draw_steps-drawn.ensures c.finish.ensures.value c.finish.ensures.scratch_after
    in
    record {
      answers = p.answers;
      number = p.number;
      place = p.place;
      counts = p.counts;
      layers = p.layers;
      cleared = p.cleared;
      redraws = p.redraws;
      valid = p.valid;
    }
