-- `tables::field::digit` meets its contract. Assumes nothing.
use mathlib.Core.Path.{sym}
use borrow.Author.Rules.{rules}
use Rattle.tables.proofs.HexDigits.{digit-decimal, digit-letter}
use Rattle.tables.proofs.field.digit.Goals as goal

pub returns-then-x-lt97 : goal.returns-then-x-lt97
returns-then-x-lt97 c = (sym (digit-decimal _ (search rules)), search rules)

pub returns : goal.returns
returns c = (sym (digit-letter _ (search rules)), search rules)
