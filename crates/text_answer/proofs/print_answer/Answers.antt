-- `text_answer::print_answer` meets its contract. Assumes nothing.
use mathlib.Core.Path.{sym, ap, ◌∙◌}
use borrow.Author.Rules.{rules}
use Rattle.filter.proofs.PassedChecks.{accepted-is}
use Rattle.text_print.specs.Output.{in_srgb}
use Rattle.text_print.proofs.PutTexts.{put_as}
use Rattle.text_answer.proofs.BuffersSuffice.{ok-room, refused-room}
use Rattle.text_answer.proofs.Printed.{answer_ok, answer-refused}
use Rattle.text_answer.proofs.print_answer.Goals as goal

pub last_layer-layer-requires : goal.last_layer-layer-requires
last_layer-layer-requires c = (c.requires.width_le_longest_text_side.0, c.requires.width_le_longest_text_side.1, c.requires.out_len.1 (sym (c.is_ok.ensures.value ∙ accepted-is _) ∙ c.if-is_ok.true), c.requires.width_le_longest_text_side.2)

pub put_ok-requires : goal.put_ok-requires
put_ok-requires c =
    record { layer_len = c.last_layer-layer.ensures.result_len; layer_in_bounds = ok-room _ _ _ _ c.requires.width_le_longest_text_side.0 c.requires.width_le_longest_text_side.1 c.requires.out_len.0 }

pub returns-then-is_ok : goal.returns-then-is_ok
returns-then-is_ok c =
    put_as c.put_ok.ensures _
    (answer_ok _ _ _ _ _ (sym (c.is_ok.ensures.value ∙ accepted-is _) ∙ c.if-is_ok.true) (ap (in_srgb c.args.space) c.last_layer-layer.ensures.result_value))

pub put_refused-requires : goal.put_refused-requires
put_refused-requires c = refused-room _ _ _ (search rules) (search rules) c.requires.out_len.0

pub returns : goal.returns
returns c =
    put_as c.put_refused.ensures _ (answer-refused _ _ _ _ _ _ (sym (c.is_ok.ensures.value ∙ accepted-is _) ∙ c.if-is_ok.false) c.number.ensures c.place.ensures)
