-- `text_print::lines::put_number` meets its contract. Assumes nothing.
use borrow.Author.Rules.{rules}
use Rattle.text_print.proofs.PutTexts.{put_then}
use Rattle.text_print.proofs.lines.put_number.Goals as goal

pub returns : goal.returns
returns c = put_then c.put_byte-tab.ensures c.put_decimal.ensures (search rules)
