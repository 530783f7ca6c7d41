-- A reciprocal that is rounded up divides, where the number is so small that the rounding does not count. Assumes nothing.
use mathlib.Core.Path.{◌≡◌, ap, ◌∙◌}
use Prim.Native.Nat.{ℕ, ◌+◌, ◌-◌, ◌*◌, ◌/◌, ◌≤◌, ◌<◌, ◌^◌}
use native.Mathlib.Nat.{mul_assoc, mul-add, mul-le-mul, div-mul-le_self, div-lt_iff_lt-mul, div-div-eq-div-mul, lt-div-mul-add}
use native.Mathlib.Omega.{arith}
use mathlib.Core.Logic.{⊎_elim}
use lib.Pow.{pow_mono}
use Rattle.window.proofs.Numbers.{quotient}
use Rattle.window.proofs.Store.{lt-or-le}
use Rattle.kernel_sums.specs.Reciprocal.{Divides, LargestBelow, ceiling}

-- m * size is p and e more, and t * e does not reach p
by_product : (t size m p e : ℕ) → 0 < size → m * size ≡ p + e → t * e < p → t * m / p ≡ t / size
by_product t size m p e pos is small = quotient (t * m) t size p (t * e) pos (mul_assoc t m size ∙ ap (λ (x : ℕ). t * x) is ∙ mul-add t p e) small

-- a number divided by size and rounded up
module _ (a size : ℕ) (pos : 0 < size) where
  pub up_least : a ≤ (a + (size - 1)) / size * size
  up_least = omega (arith, lt-div-mul-add {a = a + (size - 1)} pos)

  pub up-most : (a + (size - 1)) / size * size < a + size
  up-most = omega (arith, div-mul-le_self (a + (size - 1)) size)

-- the reciprocal of a size up to 64
module _ (shift size mul : ℕ) (largest : LargestBelow shift size) (limit : size ≤ 64) (mul_is : mul ≡ ceiling (2 ^ shift * 65536) size) where
  mul-least : 2 ^ shift * 65536 ≤ mul * size
  mul-least = rw mul_is (up_least (2 ^ shift * 65536) size (omega (arith, largest.below)))

  mul_most : mul * size < 2 ^ shift * 65536 + size
  mul_most = rw mul_is (up-most (2 ^ shift * 65536) size (omega (arith, largest.below)))

  rest : (t : ℕ) → t ≤ 255 * size + size / 2 → t * (mul * size - 2 ^ shift * 65536) < 2 ^ shift * 65536
  rest t le =
      let e : mul * size - 2 ^ shift * 65536 ≤ 63 = omega (arith, mul_most) in
      omega (arith, largest.below, mul-le-mul {n₁ = t} {m₁ = mul * size - 2 ^ shift * 65536} {n₂ = 2 ^ shift * 511} {m₂ = 63} (omega (arith, largest.most)) e)

  small : shift < 16
  small = ⊎_elim (λ l. l) (λ l. let big : 2 ^ 16 ≤ 2 ^ shift = pow_mono l in absurd (omega (arith, largest.below))) (lt-or-le shift 16)

  pub divides : Divides mul shift size
  divides = record {
    exact = λ t le. div-div-eq-div-mul (t * mul) 65536 (2 ^ shift) ∙ by_product t size mul (65536 * 2 ^ shift) (mul * size - 2 ^ shift * 65536) (omega (arith, largest.below)) (omega (arith, mul-least)) (omega (arith, rest t le));
    small = small;
    some = omega (arith, largest.below);
  }

-- a byte's mean is a byte
pub mean-lt : (t size : ℕ) → 0 < size → t ≤ 255 * size + size / 2 → t / size < 256
mean-lt t size pos le = (div-lt_iff_lt-mul pos).1 (omega arith)

pub product_lt : (t m : ℕ) → t < 65536 → m < 65536 → t * m < 4294967296
product_lt t m a b = omega (arith, mul-le-mul {n₁ = t} {m₁ = m} {n₂ = 65535} {m₂ = 65535} (omega arith) (omega arith))
