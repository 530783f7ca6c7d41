-- `text_print::digits::put_hex` meets its contract. Assumes nothing.
use borrow.Author.Rules.{rules}
use Rattle.text_print.specs.Digits.{hex_byte}
use Rattle.text_print.proofs.PutTexts.{put_then}
use Rattle.text_print.proofs.digits.put_hex.Goals as goal

pub returns : goal.returns
unfolding hex_byte
returns c = put_then c.put_digit-second.ensures c.put_digit.ensures (search rules)
