-- A convolved pixel is of bytes and valid, and a divisor that is absent is not 0. Assumes nothing.
use Prim.Native.Nat.{ℕ, zero, suc, ◌<◌}
use mathlib.Core.Path.{◌≡◌, refl, ap, ap₂}
use mathlib.Core.Bool.{Bool, true, false, cond}
use native.Mathlib.Omega.{arith}
use native.Mathlib.Nat.{lt_of_le_of_lt}
use lib.IntN.{ℤ, pos, negsuc, ◌+ℤ◌, ◌*ℤ◌}
use Rattle.number.specs.declared.Fixed.{Fixed}
use Rattle.pixel.specs.declared.Pixel.{Pixel}
use Rattle.pixel.specs.declared.Convolution.{Convolution}
use Rattle.pixel.specs.Alpha.{Valid, Bytes, unpremultiplied}
use Rattle.pixel.specs.Whole.{nearest_up}
use Rattle.pixel.specs.Convolve.{sum, or_one, divisor_of, bias_of, quotient, weighed, channel_sum, free, preserved, convolved}
use Rattle.pixel.proofs.SignedSums.{above, below, limited-byte}
use Rattle.pixel.proofs.Premultiplied.{premultiplied-le}

pub or-one : (z : ℤ) → or_one z ≡ pos 0 → ⊥
or-one (pos zero) e = omega (arith, ap above e)
or-one (pos (suc n)) e = omega (arith, ap above e)
or-one (negsuc n) e = omega (arith, ap below e)

-- a sum depends on what is added
pub sum_same : (n : ℕ) (f g : ℕ → ℤ) → ((i : ℕ) → i < n → f i ≡ g i) → sum n f ≡ sum n g
unfolding sum
sum_same zero f g h = refl
sum_same (suc n) f g h = ap₂ ◌+ℤ◌ (sum_same n f g (λ i l. h i (omega arith))) (h n (omega arith))

pub quotient-byte : (s bias : ℤ) (alpha : ℕ) (divisor : ℤ) → quotient s bias alpha divisor < 256
unfolding quotient
quotient-byte s bias alpha divisor = limited-byte (nearest_up (pos 65536 *ℤ s +ℤ bias *ℤ pos alpha *ℤ divisor) (pos 65536 *ℤ divisor))

module _ (w h : ℕ) (k : Convolution) (v : ℕ → Fixed) (f : ℕ → ℕ → Pixel) (x y : ℕ) where
  sum-byte : (channel : Pixel → ℕ) → channel_sum w h k v f x y channel < 256
  sum-byte channel = quotient-byte (weighed w h k v f x y channel) (bias_of k v) (f x y).a (divisor_of k v)

  pub convolved-valid : Valid (convolved w h k v f x y)
  unfolding convolved
  convolved-valid = go k.preserve
    where
      go : (b : Bool) → Valid (cond b (preserved w h k v f x y) (free w h k v f x y))
      go true = record {
        r = premultiplied-le _ (f x y).a (sum-byte (λ p. unpremultiplied p.r p.a));
        g = premultiplied-le _ (f x y).a (sum-byte (λ p. unpremultiplied p.g p.a));
        b = premultiplied-le _ (f x y).a (sum-byte (λ p. unpremultiplied p.b p.a));
      }
      go false = record { r = omega arith; g = omega arith; b = omega arith }

  pub convolved-bytes : (f x y).a < 256 → Bytes (convolved w h k v f x y)
  unfolding convolved
  convolved-bytes l = go k.preserve
    where
      go : (b : Bool) → Bytes (cond b (preserved w h k v f x y) (free w h k v f x y))
      go true = record {
        r = lt_of_le_of_lt (premultiplied-le _ (f x y).a (sum-byte (λ p. unpremultiplied p.r p.a))) l;
        g = lt_of_le_of_lt (premultiplied-le _ (f x y).a (sum-byte (λ p. unpremultiplied p.g p.a))) l;
        b = lt_of_le_of_lt (premultiplied-le _ (f x y).a (sum-byte (λ p. unpremultiplied p.b p.a))) l;
        a = l;
      }
      go false = record {
        r = omega (arith, sum-byte (λ p. p.r));
        g = omega (arith, sum-byte (λ p. p.g));
        b = omega (arith, sum-byte (λ p. p.b));
        a = sum-byte (λ p. p.a);
      }
