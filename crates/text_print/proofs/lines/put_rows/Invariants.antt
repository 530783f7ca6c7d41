use Prim.Native.Nat.{◌+◌, ◌*◌}
use Rattle.text_print.proofs.PutTexts.{Putting}
use Rattle.text_print.proofs.PrintedRows.{rows}
use Rattle.text_print.proofs.lines.put_rows.Given as goal

abbrev pub invariant-loop-y : goal.invariant-loop-y
invariant-loop-y l = Putting (rows l.w l.h l.layer l.space) (9 * l.w + 4) l.h l.initial.end l.initial.out l.out l.end l.y
