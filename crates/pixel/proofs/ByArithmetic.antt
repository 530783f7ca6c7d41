-- The arithmetic composite: worked out by naturals alone; valid, and four bytes, whatever the coefficients. Assumes nothing.
use Prim.Native.Nat.{ℕ, ◌+◌, ◌-◌, ◌*◌, ◌/◌, ◌<◌, min}
use mathlib.Core.Path.{◌≡◌, sym}
use native.Mathlib.Omega.{arith}
use lib.IntN.{ℤ, pos, sub_ℕ, ◌+ℤ◌, ◌*ℤ◌}
use Rattle.pixel.specs.declared.Pixel.{Pixel}
use Rattle.pixel.specs.declared.Arithmetic as K
use Rattle.pixel.specs.Alpha.{Valid, Bytes}
use Rattle.pixel.specs.Whole.{◌÷◌}
use Rattle.pixel.specs.Arithmetic.{arithmetic_channel, channel_of, by_arithmetic}
use Rattle.pixel.proofs.SignedSums.{diff-sub, diff-add, diff-mul, diff-by, diff-plus, diff-limited, limited-byte}

-- u: what is above zero; d: what is below it
pub arithmetic-natural : (u1 d1 u2 d2 u3 d3 u4 d4 a b : ℕ)
    → min ((u1 * a * b + 255 * (u2 * a + u3 * b) + 65025 * u4 + 8355840 - (d1 * a * b + 255 * (d2 * a + d3 * b) + 65025 * d4)) / 16711680) 255
    ≡ arithmetic_channel (sub_ℕ u1 d1) (sub_ℕ u2 d2) (sub_ℕ u3 d3) (sub_ℕ u4 d4) a b
unfolding arithmetic_channel
arithmetic-natural u1 d1 u2 d2 u3 d3 u4 d4 a b =
    let products = diff-mul b (diff-mul a (diff-sub u1 d1)) in
    let channels = diff-by 255 (diff-add (diff-mul a (diff-sub u2 d2)) (diff-mul b (diff-sub u3 d3))) in
    sym (diff-limited 16711680 (diff-plus 8355840 (diff-add (diff-add products channels) (diff-by 65025 (diff-sub u4 d4)))))

pub arithmetic-byte : (k1 k2 k3 k4 : ℤ) (a b : ℕ) → arithmetic_channel k1 k2 k3 k4 a b < 256
unfolding arithmetic_channel
arithmetic-byte k1 k2 k3 k4 a b =
    limited-byte ((k1 *ℤ pos a *ℤ pos b +ℤ pos 255 *ℤ (k2 *ℤ pos a +ℤ k3 *ℤ pos b) +ℤ pos 65025 *ℤ k4 +ℤ pos 8355840) ÷ 16711680)

module _ (k : K.Arithmetic) (p q : Pixel) where
  pub arithmetic-valid : Valid (by_arithmetic k p q)
  unfolding by_arithmetic
  arithmetic-valid = record { r = omega arith; g = omega arith; b = omega arith }

  channel-byte : (a b : ℕ) → channel_of k a b < 256
  channel-byte a b = arithmetic-byte _ _ _ _ a b

  pub arithmetic-bytes : Bytes (by_arithmetic k p q)
  unfolding by_arithmetic
  arithmetic-bytes =
      let a = channel-byte p.a q.a in
      record { r = omega arith; g = omega arith; b = omega arith; a = a }
