-- `capi::drawing::call_lines` meets its contract: what `draw_lines` promises, by the answer. Assumes nothing.
use mathlib.Core.Path.{◌≡◌, ap, ◌∙◌}
use Rattle.filter.specs.Answers.{Answer, accepted?}
use Rattle.text.specs.declared.Form.TheVariants as F
use Rattle.render.specs.Promise.{if_accepted, zeros}
use Rattle.lines.specs.Lines.{giving_text, answer_in, worked_in, layers_in}
use Rattle.capi.proofs.Replies.{reply-is}
use Rattle.capi.proofs.drawing.call_lines.Goals as goal

pub returns : goal.returns
returns c =
    let s = c.args in
    let d = c.draw_lines-drawn.result in
    let e = c.draw_lines-drawn.ensures in
    let t = giving_text F.Lines s.steps.now s.call s.width s.height s.source.now s.workspace.now s.scratch.now in
    let same : accepted? d.answer ≡ accepted? (answer_in t) = ap accepted? e.answers in
    record {
      answers = reply-is _ _ _ _ _ (λ (x : Answer). worked_in x t) c.reply.ensures e.reads e.answers e.counts;
      layers = e.layers ∙ ap (λ (x : Answer). layers_in x t) e.answers;
      cleared = e.cleared ∙ ap (λ (x : Answer). if_accepted x (zeros s.scratch.now) s.scratch.now) e.answers;
      redraws = λ y. e.redraws (same ∙ y);
      valid = λ y. e.valid (same ∙ y);
    }
