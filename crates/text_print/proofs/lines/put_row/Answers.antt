-- `text_print::lines::put_row` meets its contract. The loop keeps that x pixels are stored after the word. Assumes nothing.
use mathlib.Core.Path.{refl}
use native.Mathlib.Omega.{arith}
use borrow.Author.Rules.{rules}
use Rattle.text_print.proofs.PrintedRows.{row_put, cell-length}
use Rattle.text_print.proofs.PutTexts.{putting-end, putting-none, putting-room, putting-more, putting-all}
use Rattle.text_print.proofs.lines.put_row.Goals as goal

pub loop-x-init : goal.loop-x-init
loop-x-init c = putting-none _ _ _ _ _ (cell-length _) (search rules)

pub put_field-end-requires : goal.put_field-end-requires
put_field-end-requires c = (putting-room _ _ _ _ _ _ _ _ c.loop-x.invariant (search rules), search rules)

pub loop-x-preserved : goal.loop-x-preserved
loop-x-preserved c = putting-more _ _ _ _ _ _ _ _ c.loop-x.invariant (search rules) _ _ _ refl (search rules) c.put_field-end.ensures

pub put_byte-requires : goal.put_byte-requires
put_byte-requires c = omega (arith, putting-end _ _ _ _ _ _ _ _ c.loop-x.invariant (search rules), c.loop-x.invariant.same)

pub returns : goal.returns
returns c =
    row_put _ _ c.put_word-end.ensures (putting-all _ _ _ _ _ _ _ _ c.loop-x.invariant (search rules)) c.put_byte.ensures (search rules)
