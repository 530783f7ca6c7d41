-- `text_print::digits::digit` meets its contract. Assumes nothing.
use mathlib.Core.Path.{sym}
use Rattle.text_print.proofs.DecimalDigits.{digit_low, digit-high}
use Rattle.text_print.proofs.digits.digit.Goals as goal

pub returns-then-d-lt10 : goal.returns-then-d-lt10
returns-then-d-lt10 c = sym (digit_low _ c.if-d-lt10.true)

pub returns-else-d-lt10 : goal.returns-else-d-lt10
returns-else-d-lt10 c = sym (digit-high _ c.if-d-lt10.false)
