-- `text::reader::judge_lines` meets its contract. Lines after a canvas without rows. Assumes nothing.
use Rattle.text.proofs.LineAdded.{sized-empty}
use Rattle.text.proofs.LinesScanned.{alone}
use borrow.Author.Rules.{rules}
use Rattle.text.proofs.reader.judge_lines.Goals as goal

pub lines_of-requires : goal.lines_of-requires
lines_of-requires c = (search rules, search rules, rw c.empty.ensures (sized-empty 0 0 (search rules) (search rules)))

pub returns : goal.returns
returns c = alone _ c.empty.ensures c.lines_of.ensures
