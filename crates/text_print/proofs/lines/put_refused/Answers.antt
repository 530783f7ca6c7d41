-- `text_print::lines::put_refused` meets its contract. Assumes nothing.
use native.Mathlib.Omega.{arith}
use Rattle.text_print.proofs.PrintedRows.{refused-put, refused-length}
use Rattle.text_print.proofs.lines.put_refused.Goals as goal

pub put_word-word-requires : goal.put_word-word-requires
put_word-word-requires c = omega (arith, refused-length c.args.number c.args.place)

pub put_number-first-requires : goal.put_number-first-requires
put_number-first-requires c = omega (arith, refused-length c.args.number c.args.place)

pub put_number-second-requires : goal.put_number-second-requires
put_number-second-requires c = omega (arith, refused-length c.args.number c.args.place)

pub put_byte-requires : goal.put_byte-requires
put_byte-requires c = omega (arith, refused-length c.args.number c.args.place)

pub returns : goal.returns
returns c =
    refused-put c.args.number c.args.place c.put_word-word.ensures c.put_number-first.ensures c.put_number-second.ensures c.put_byte.ensures c.requires
