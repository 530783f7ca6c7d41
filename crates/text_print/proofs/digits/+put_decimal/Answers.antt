-- `text_print::digits::put_decimal` meets its contract. By cases on one digit or more. Assumes nothing.
use mathlib.Core.Path.{ap, sym}
use native.Mathlib.Omega.{arith}
use lib.ListN.{length}
use Rattle.text_print.proofs.DecimalDigits.{decimal_digit, decimal-more, decimal-length}
use Rattle.text_print.proofs.PutTexts.{put_as, put_then}
use Rattle.text_print.proofs.digits.+put_decimal.Goals as goal

pub put_digit-requires : goal.put_digit-requires
put_digit-requires t c = (omega (arith, ap length (decimal_digit c.args.n (omega arith))), omega arith)

pub returns-then-n-lt10 : goal.returns-then-n-lt10
returns-then-n-lt10 t c = put_as c.put_digit.ensures _ (sym (decimal_digit c.args.n (omega arith)))

pub put_decimal-end-requires : goal.put_decimal-end-requires
put_decimal-end-requires t c = (omega arith, omega (arith, decimal-length c.args.n (omega arith)))

pub put_digit-requires-2 : goal.put_digit-requires-2
put_digit-requires-2 t c = (omega (arith, c.put_decimal-end.ensures.ends, decimal-length c.args.n (omega arith)), omega arith)

pub returns : goal.returns
returns t c =
    put_as (put_then c.put_decimal-end.ensures c.put_digit-2.ensures (omega (arith, decimal-length c.args.n (omega arith)))) _ (sym (decimal-more c.args.n (omega arith)))
