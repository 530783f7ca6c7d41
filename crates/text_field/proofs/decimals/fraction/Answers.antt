-- `text_field::decimals::fraction` meets its contract. Up to 4 digits stay below 10,000. Assumes nothing.
use lib.Dec.{lit≤}
use Rattle.text_field.proofs.DigitNumbers.{digits-below}
use Rattle.text_field.proofs.decimals.fraction.Goals as goal

pub scale-requires : goal.scale-requires
scale-requires c = rw c.digits.ensures (digits-below 10 4 _ (lit≤ tt))
