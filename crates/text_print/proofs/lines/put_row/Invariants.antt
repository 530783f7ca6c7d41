use Rattle.text_print.specs.Code.{row_from}
use Rattle.text_print.proofs.PrintedRows.{cells}
use Rattle.text_print.proofs.PutTexts.{Putting}
use Rattle.text_print.proofs.lines.put_row.Given as goal

abbrev pub invariant-loop-x : goal.invariant-loop-x
invariant-loop-x l = Putting (cells (row_from l.space l.layer l.from)) 9 l.w l.initial.end l.initial.out l.out l.end l.x
