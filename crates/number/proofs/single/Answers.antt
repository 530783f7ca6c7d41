-- `number::single` meets its contract: the patterns above the infinities' are the NaNs', and there is one NaN. Assumes nothing.
use mathlib.Core.Path.{sym, ◌∙◌}
use lib.Ieee.{binary32, of_bits}
use lib.Ieee.Bits.{nan_bits_is, nan_bits_above}
use Rattle.std.proofs.lemmas.Float.{not_nan_f32_bits}
use borrow.Author.Tests.{lt-ltb}
use Rattle.number.proofs.Singles.{is-nan}
use Rattle.number.proofs.single.Goals as goal

pub returns-then-bits-gt2139095040 : goal.returns-then-bits-gt2139095040
unfolding of_bits
returns-then-bits-gt2139095040 c = sym (is-nan (of_bits binary32 c.args.bits) (sym (nan_bits_is binary32 c.args.bits) ∙ nan_bits_above binary32 c.args.bits ∙ lt-ltb _ _ c.if-bits-gt2139095040.true))

pub float_from_bits-result : goal.float_from_bits-result
float_from_bits-result c = not_nan_f32_bits c.args.bits c.if-bits-gt2139095040.false
