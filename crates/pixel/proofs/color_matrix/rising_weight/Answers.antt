-- `pixel::color_matrix::rising_weight` meets its contract. A fraction over 65,536,000 is rounded in thousandths. Assumes nothing.
use Prim.Native.Nat.{◌+◌, ◌*◌}
use mathlib.Core.Path.{sym}
use native.Mathlib.Nat.{mul-le-mul}
use native.Mathlib.Omega.{arith}
use Rattle.number.proofs.Fraction.{half-up-thousandth}
use Rattle.pixel.proofs.color_matrix.rising_weight.Goals as goal

pub overflow_mul-result-2 : goal.overflow_mul-result-2
overflow_mul-result-2 c = omega (arith, mul-le-mul c.requires.1 c.requires.2)

pub overflow_add-result : goal.overflow_add-result
overflow_add-result c = omega (arith, mul-le-mul c.requires.1 c.requires.2)

pub overflow_add-result-2 : goal.overflow_add-result-2
overflow_add-result-2 c = omega (arith, mul-le-mul c.requires.1 c.requires.2)

pub returns : goal.returns
returns c = sym (half-up-thousandth (c.args.p * 65536 + c.args.q * c.args.s))
