-- Every kind of component transfer maps bytes to bytes. Assumes nothing.
use Prim.Native.Nat.{ℕ, ◌<◌}
use native.Mathlib.Omega.{arith}
use lib.IntN.{pos, ◌+ℤ◌, ◌*ℤ◌}
use Rattle.number.specs.Number.{value}
use Rattle.number.specs.declared.Fixed.{Fixed}
use Rattle.pixel.specs.Whole.{◌÷◌}
use Rattle.pixel.specs.declared.Transfer as T
use Rattle.pixel.specs.declared.Transfer.TheVariants.{Identity, Table, Discrete, Linear}
use Rattle.pixel.specs.Curve.{table_channel, discrete_channel, linear_channel, transferred}
use Rattle.pixel.proofs.SignedSums.{limited-byte}

pub transferred-byte : (t : T.Transfer) (v : ℕ → Fixed) (c : ℕ) → c < 256 → transferred t v c < 256
unfolding transferred table_channel discrete_channel linear_channel
transferred-byte Identity v c l = l
transferred-byte (Table n) v c l = omega arith
transferred-byte (Discrete n) v c l = omega arith
transferred-byte Linear v c l = limited-byte ((value (v 0) *ℤ pos c +ℤ pos 255 *ℤ value (v 1) +ℤ pos 32768) ÷ 65536)
