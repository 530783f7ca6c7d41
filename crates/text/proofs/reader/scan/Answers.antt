-- `text::reader::scan` meets its contract. By the count of the steps. Assumes nothing.
use mathlib.Core.Path.{sym, ◌∙◌}
use Rattle.std.proofs.lemmas.Result.{err_from_is_err_and}
use Rattle.text.proofs.LinesScanned.{room-refused, room-less, room-enough}
use Rattle.text.proofs.reader.scan.Goals as goal

pub returns-in_err-r : goal.returns-in_err-r
returns-in_err-r c =
    let p = err_from_is_err_and c.from_residual.result c.from_residual.ensures.1 in
    rw (p.1, p.2) (room-refused _ _ _ (sym c.judge_text.ensures ∙ c.in_err-r.was))

pub returns-then-room-r : goal.returns-then-room-r
returns-then-room-r c = room-less _ _ _ (sym c.judge_text.ensures ∙ c.in_ok-r.was) c.if-room-r.true

pub returns : goal.returns
returns c = room-enough _ _ _ (sym c.judge_text.ensures ∙ c.in_ok-r.was) c.if-room-r.false
