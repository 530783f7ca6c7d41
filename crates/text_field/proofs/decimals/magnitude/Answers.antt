-- `text_field::decimals::magnitude` meets its contract. By cases on the point. Assumes nothing.
use Rattle.text_field.proofs.DigitNumbers.{natural-below}
use Rattle.text_field.proofs.NumberFields.{fraction-below, magnitude-point, magnitude-whole}
use Rattle.text_field.proofs.decimals.magnitude.Goals as goal

pub ten_thousandths-requires-clause-below : goal.ten_thousandths-requires-clause-below
ten_thousandths-requires-clause-below c = rw c.natural.ensures (natural-below 5 _)

pub ten_thousandths-requires-clause-below_2 : goal.ten_thousandths-requires-clause-below_2
ten_thousandths-requires-clause-below_2 c = rw c.fraction.ensures (fraction-below _)

pub ten_thousandths-requires-in-None-clause-below : goal.ten_thousandths-requires-in-None-clause-below
ten_thousandths-requires-in-None-clause-below c = rw c.natural-in-None.ensures (natural-below 5 _)

pub returns-in-Some : goal.returns-in-Some
returns-in-Some c = magnitude-point _ _ c.in-Some.ensures c.natural.ensures c.fraction.ensures c.ten_thousandths.ensures

pub returns-in-None : goal.returns-in-None
returns-in-None c = magnitude-whole _ c.in-None.ensures c.natural-in-None.ensures c.ten_thousandths-in-None.ensures
