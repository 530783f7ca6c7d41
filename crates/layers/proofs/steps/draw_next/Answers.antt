-- `layers::steps::draw_next` meets its contract: nothing where the call is refused, else its step. Assumes nothing.
use mathlib.Core.Path.{◌≡◌, refl, sym, ◌∙◌}
use mathlib.Core.Bool.{false, false≢true}
use Rattle.filter.specs.Answers.{accepted?}
use Rattle.layers.specs.Next.{CallStepDrawn}
use Rattle.layers.proofs.AnswerSoFar.{is-refused, is-accepted}
use Rattle.layers.proofs.steps.draw_next.Goals as goal

pub returns-then-is_err : goal.returns-then-is_err
returns-then-is_err c =
    let no = is-refused _ c.is_err.ensures.value c.if-is_err.true in
    record { next_drawn = record { drawn = λ a. absurd (false≢true (sym no ∙ a)); refused = λ _. (refl, refl) }; scratch_after = record { long = refl; refused = λ _. refl } }

pub render_next-requires : goal.render_next-requires
render_next-requires c =
    (c.requires (is-accepted _ c.is_err.ensures.value c.if-is_err.false)).buffers

pub redraw_next-requires : goal.redraw_next-requires
redraw_next-requires c =
    let R = c.requires (is-accepted _ c.is_err.ensures.value c.if-is_err.false) in
    record { step_ready = R.buffers; rects_ready = R.rects _ c.in-Redraw.is }

pub shape_of-workspace-in-Render : goal.shape_of-workspace-in-Render
shape_of-workspace-in-Render c = c.render_next.ensures.rendered.layer.long

pub shape_of-scratch-in-Render : goal.shape_of-scratch-in-Render
shape_of-scratch-in-Render c = c.render_next.ensures.work_buffer.long

pub returns-in-Render : goal.returns-in-Render
unfolding CallStepDrawn
returns-in-Render c =
    let yes = is-accepted _ c.is_err.ensures.value c.if-is_err.false in
    let not-refused : ¬ (accepted? _ ≡ false) = λ a. false≢true (sym a ∙ yes) in
    record { next_drawn = record { drawn = λ _. rw c.in-Render.is c.render_next.ensures.rendered; refused = λ a. absurd (not-refused a) }; scratch_after = record { long = c.render_next.ensures.work_buffer.long; refused = λ a. absurd (not-refused a) } }

pub shape_of-workspace-in-Redraw : goal.shape_of-workspace-in-Redraw
shape_of-workspace-in-Redraw c = c.redraw_next.ensures.redrawn.layer.long

pub shape_of-scratch-in-Redraw : goal.shape_of-scratch-in-Redraw
shape_of-scratch-in-Redraw c = c.redraw_next.ensures.work_buffer.long

pub returns-in-Redraw : goal.returns-in-Redraw
unfolding CallStepDrawn
returns-in-Redraw c =
    let yes = is-accepted _ c.is_err.ensures.value c.if-is_err.false in
    let not-refused : ¬ (accepted? _ ≡ false) = λ a. false≢true (sym a ∙ yes) in
    record { next_drawn = record { drawn = λ _. rw c.in-Redraw.is c.redraw_next.ensures.redrawn; refused = λ a. absurd (not-refused a) }; scratch_after = record { long = c.redraw_next.ensures.work_buffer.long; refused = λ a. absurd (not-refused a) } }
