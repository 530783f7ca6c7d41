-- `text_print::digits::put_byte` meets its contract. Assumes nothing.
use borrow.Author.Rules.{rules}
use Rattle.text_print.proofs.PutTexts.{put_one}
use Rattle.text_print.proofs.digits.put_byte.Goals as goal

pub returns : goal.returns
returns c = put_one _ _ _ (search rules)
