-- `text::reader::line_after` meets its contract. A line feed stands before the end of the text. Assumes nothing.
use Rattle.text_field.proofs.SplitByIndex.{piece-le}
use borrow.Author.Rules.{rules}
use Rattle.text.proofs.reader.line_after.Goals as goal

pub overflow_add-result : goal.overflow_add-result
overflow_add-result c = let w = piece-le 10 c.args.text.now c.args.at _ c.requires c.find.ensures in search rules
