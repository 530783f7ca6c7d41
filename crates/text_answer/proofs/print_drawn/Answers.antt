-- `text_answer::print_drawn` meets its contract. Assumes nothing.
use mathlib.Core.Path.{ap, ◌∙◌}
use Prim.Native.Nat.{ℕ, ◌*◌}
use lib.ListN.{length, length-replicate}
use Rattle.filter.specs.Bytes.{size}
use Rattle.text_print.proofs.PutTexts.{put_as}
use Rattle.text_answer.proofs.Printed.{drawn-some, drawn-text}
use Rattle.text_answer.proofs.print_drawn.Goals as goal

pub print_answer-requires : goal.print_answer-requires
print_answer-requires c =
    let d = c.draw-answer in
    let n = length-replicate {A = ℕ} (c.args.count * size c.args.width c.args.height) 0 in
    record { width_le_longest_text_side = (c.requires.width_le_longest_text_side.0, c.requires.width_le_longest_text_side.1, d.auto.workspace ∙ ap length c.requires.workspace_value.0 ∙ n); out_len = (c.requires.workspace_value.1, drawn-some c.args.text.now c.args.width c.args.height c.args.count c.args.source.now c.args.workspace.now _ c.requires.width_le_longest_text_side.2 c.requires.workspace_value.0 d.ensures.value) }

pub returns : goal.returns
returns c =
    let d = c.draw-answer in
    put_as c.print_answer.ensures _ (drawn-text c.args.text.now c.args.width c.args.height c.args.count c.args.source.now c.args.workspace.now _ c.requires.width_le_longest_text_side.2 c.requires.workspace_value.0 d.ensures.value _ d.ensures.workspace_after _ c.requires.workspace_value.2)
