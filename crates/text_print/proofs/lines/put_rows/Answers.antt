-- `text_print::lines::put_rows` meets its contract. The loop keeps that y lines are stored. Assumes nothing.
use native.Mathlib.Omega.{arith}
use borrow.Author.Rules.{rules}
use Rattle.filter.specs.Bytes.{read}
use Rattle.text_print.specs.Output.{row_lines, in_srgb}
use Rattle.text_print.proofs.PutTexts.{putting-none, putting-room, putting-more, putting-all}
use Rattle.text_print.proofs.PrintedRows.{rows-length, row_read, row-end, lines-length}
use Rattle.text_print.proofs.lines.put_rows.Goals as goal

pub loop-y-init : goal.loop-y-init
loop-y-init c = putting-none _ _ _ _ _ (rows-length _ _ _ _) (omega (arith, lines-length c.args.w c.args.h (in_srgb c.args.space (read c.args.w c.args.h c.args.layer.now 0))))

pub overflow_mul-y : goal.overflow_mul-y
overflow_mul-y c = omega (arith, row-end c.args.w c.args.h c.loop-y.y (search rules))

pub overflow_mul-y-in-loop-y : goal.overflow_mul-y-in-loop-y
overflow_mul-y-in-loop-y c = omega (arith, row-end c.args.w c.args.h c.loop-y.y (search rules))

pub put_row-end-requires : goal.put_row-end-requires
put_row-end-requires c =
    (omega (arith, putting-room _ _ _ _ _ _ _ _ c.loop-y.invariant (search rules)), omega (arith, row-end c.args.w c.args.h c.loop-y.y (search rules)))

pub loop-y-preserved : goal.loop-y-preserved
loop-y-preserved c = putting-more _ _ _ _ _ _ _ _ c.loop-y.invariant (search rules) _ _ _ (row_read _ _ _ _ _ (search rules)) (search rules) c.put_row-end.ensures

pub returns : goal.returns
unfolding row_lines
returns c = putting-all _ _ _ _ _ _ _ _ c.loop-y.invariant (search rules)
