-- `text_print::digits::put_pixel` meets its contract. Assumes nothing.
use borrow.Author.Rules.{rules}
use Rattle.text_print.specs.Digits.{hex_byte, hex_pixel}
use Rattle.text_print.proofs.PutTexts.{put_then}
use Rattle.text_print.proofs.digits.put_pixel.Goals as goal

pub put_hex-blue-requires : goal.put_hex-blue-requires
unfolding hex_byte
put_hex-blue-requires c = search rules

pub put_hex-alpha-requires : goal.put_hex-alpha-requires
unfolding hex_byte
put_hex-alpha-requires c = search rules

pub put_hex-requires : goal.put_hex-requires
unfolding hex_byte
put_hex-requires c = search rules

pub returns : goal.returns
unfolding hex_byte hex_pixel
returns c = put_then (put_then (put_then c.put_hex-green.ensures c.put_hex-blue.ensures (search rules)) c.put_hex-alpha.ensures (search rules)) c.put_hex.ensures (search rules)
