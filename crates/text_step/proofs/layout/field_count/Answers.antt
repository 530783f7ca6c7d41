-- `text_step::layout::field_count` meets its contract. No kind has many numbers. Assumes nothing.
use native.Mathlib.Omega.{arith}
use Rattle.filter.proofs.FewNumbers.{numbers-few}
use Rattle.text_step.proofs.layout.field_count.Goals as goal

pub number_field-requires : goal.number_field-requires
number_field-requires c = (c.requires.0, c.requires.1, omega (arith, c.requires.2, numbers-few c.args.kind))

pub returns : goal.returns
returns c = (rw (c.number_field.ensures.0, c.behind_of.ensures.0, c.requires.2), omega (arith, c.number_field.ensures.1, c.behind_of.ensures.1))
