-- `pixel::color_matrix::falling_weight` meets its contract. A fraction over 65,536,000 is rounded in thousandths. Assumes nothing.
use Prim.Native.Nat.{◌-◌, ◌*◌}
use mathlib.Core.Path.{sym}
use native.Mathlib.Nat.{mul-le-mul, sub-le}
use native.Mathlib.Omega.{arith}
use Rattle.number.proofs.Fraction.{half-up-thousandth}
use Rattle.pixel.proofs.color_matrix.falling_weight.Goals as goal

pub overflow_mul-x : goal.overflow_mul-x
overflow_mul-x c = omega (arith, mul-le-mul c.requires.0 (sub-le 65536 c.args.s))

pub overflow_add-result : goal.overflow_add-result
overflow_add-result c = omega (arith, mul-le-mul c.requires.0 (sub-le 65536 c.args.s))

pub returns : goal.returns
returns c = sym (half-up-thousandth (c.args.p * (65536 - c.args.s)))
