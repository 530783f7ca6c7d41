-- `text::reader::judge_text` meets its contract. By the form. Assumes nothing.
use Rattle.text.proofs.LinesScanned.{judged-as}
use Rattle.text.proofs.reader.judge_text.Goals as goal

pub returns-in-Sheet : goal.returns-in-Sheet
returns-in-Sheet c = judged-as _ _ c.in-Sheet.is c.judge_sheet.ensures

pub returns-in-Lines : goal.returns-in-Lines
returns-in-Lines c = judged-as _ _ c.in-Lines.is c.judge_lines.ensures
