-- `text_answer::draw` meets its contract. The scratch part is as long as the rules ask. Assumes nothing.
use mathlib.Core.Path.{sym, ap, ◌∙◌}
use mathlib.Core.List.{List}
use Prim.Native.Nat.{ℕ, ◌*◌}
use native.Mathlib.Omega.{arith}
use lib.ListN.{replicate}
use Rattle.filter.specs.declared.Call.TheVariants as C
use Rattle.filter.specs.Limits.{text_picture}
use Rattle.text.specs.declared.Form.TheVariants as F
use Rattle.lines.specs.Lines.{giving_text, answer_in}
use Rattle.text_answer.proofs.BuffersSuffice.{size-le, zeros-long, take-zeros}
use Rattle.text_answer.proofs.draw.Goals as goal

pub slice_bounds-scratch-end : goal.slice_bounds-scratch-end
slice_bounds-scratch-end c =
    omega (arith, size-le c.args.width c.args.height c.picture_size-n.ensures.0 c.requires.0 c.requires.1)

pub slice_bounds-draw_lines-end : goal.slice_bounds-draw_lines-end
slice_bounds-draw_lines-end c =
    sym (zeros-long _ (2 * text_picture) (omega (arith, size-le c.args.width c.args.height c.picture_size-n.ensures.0 c.requires.0 c.requires.1)))

pub returns : goal.returns
returns c =
    let a = c.args in
    let p = c.picture_size-n in
    let r = size-le a.width a.height p.ensures.0 c.requires.0 c.requires.1 in
    let z = take-zeros (2 * p.result) (2 * text_picture) (omega arith) ∙ ap (λ (n : ℕ). replicate {A = ℕ} (2 * n) 0) p.ensures.0 in
    record { value = c.draw_lines-drawn.ensures.answers ∙ ap (λ (l : List ℕ). answer_in (giving_text F.Sheet a.text.now C.Render a.width a.height a.source.now a.workspace.now l)) z; workspace_after = c.draw_lines-drawn.ensures.layers }
