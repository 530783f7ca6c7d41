-- `text_field::decimals::numeral_of` meets its contract. By cases on the first byte. Assumes nothing.
use Rattle.text_field.proofs.DigitNumbers.{hex-below}
use Rattle.text_field.proofs.NumberFields.{magnitude-below, number-single, number-minus, number-plus}
use Rattle.text_field.proofs.decimals.numeral_of.Goals as goal

pub single_of-requires : goal.single_of-requires
single_of-requires c = rw c.hex.ensures (hex-below _)

pub returns-in-Some : goal.returns-in-Some
returns-in-Some c = let h = c.in-Some.ensures.cases in number-single _ (h.0, h.1) c.hex.ensures c.single_of.ensures

pub decimal_of-requires : goal.decimal_of-requires
decimal_of-requires c = rw c.magnitude.ensures (magnitude-below _)

pub decimal_of-requires-in-None : goal.decimal_of-requires-in-None
decimal_of-requires-in-None c = rw c.magnitude-in-None.ensures (magnitude-below _)

pub returns-in-Some-strip_prefix : goal.returns-in-Some-strip_prefix
returns-in-Some-strip_prefix c =
    let h = c.in-Some-strip_prefix.ensures.cases in
    number-minus _ c.in_default.ensures.cases (h.0, h.1) c.magnitude.ensures c.decimal_of.ensures

pub returns-in-None : goal.returns-in-None
returns-in-None c = number-plus _ c.in_default.ensures.cases c.in-None.ensures.cases c.magnitude-in-None.ensures c.decimal_of-in-None.ensures
