-- A quotient from a product and a shift: with 2^40 / d, rounded down, it is one too small at most. Assumes nothing.
use Prim.Native.Nat.{ℕ, ◌+◌, ◌*◌, ◌/◌, ◌≤◌, ◌<◌}
use mathlib.Core.Path.{◌≡◌}
use native.Mathlib.Nat.{mul_assoc, mul_comm, mul-add, add-mul, mul-le-mul_left, mul-le-mul_right, le_of_mul-le-mul_right, div-mul-le_self, div-add-mod', mod-lt}
use native.Mathlib.Omega.{arith}

-- parts of the bounds below, each with few numbers in reach
sum_by : (x q d : ℕ) → (x + 1) * d ≤ 1099511627776 * (q + 1) * d → x * d + d ≤ 1099511627776 * (q * d) + 1099511627776 * d
sum_by x q d h = omega (arith, add-mul x 1 d, mul_assoc 1099511627776 (q + 1) d, add-mul q 1 d)

part_by : (z x y d : ℕ) → x ≡ z * y → z * 1099511627776 ≤ z * (y + d) → 1099511627776 * z ≤ x + z * d
part_by z x y d e h = omega (arith, mul-add z y d)

within-two : (z c d x y : ℕ) → 0 < d → x + d ≤ 1099511627776 * c + 1099511627776 * d → 1099511627776 * z ≤ x + y → y ≤ 1099511627776 * d → z < c + 2 * d
within-two z c d x y some a b e = omega arith

module _ (z d m : ℕ) (some : 0 < d) (small : d ≤ 419430400) (is : m ≡ 1099511627776 / d) (few : z ≤ 255 * d) where
  mul_low : m * d ≤ 1099511627776
  mul_low = rw is (div-mul-le_self 1099511627776 d)

  mul-high : 1099511627776 ≤ m * d + d
  mul-high = rw is (omega (arith, div-add-mod' 1099511627776 d, mod-lt 1099511627776 some))

  -- z · m · d
  turned : z * m * d ≡ z * (m * d)
  turned = mul_assoc z m d

  pub product-fits : z * m ≤ 280375465082880
  product-fits =
      let e : 255 * d * m ≡ 255 * (m * d) = rw (mul_comm m d) (mul_assoc 255 d m) in
      omega (arith, mul-le-mul_right m few, e, mul_low)

  pub nearly-low : z * m / 1099511627776 * d ≤ z
  nearly-low =
      let q : ℕ = z * m / 1099511627776 in
      let below : 1099511627776 * q ≤ z * m = omega arith in
      omega (arith, mul-le-mul_right d below, mul_assoc 1099511627776 q d, turned, mul-le-mul_left z mul_low)

  above-by : z * m * d + d ≤ 1099511627776 * (z * m / 1099511627776 * d) + 1099511627776 * d
  above-by =
      let q : ℕ = z * m / 1099511627776 in
      let above : z * m + 1 ≤ 1099511627776 * (q + 1) = omega arith in
      sum_by (z * m) q d (mul-le-mul_right d above)

  below_by : 1099511627776 * z ≤ z * m * d + z * d
  below_by = part_by z (z * m * d) (m * d) d turned (mul-le-mul_left z mul-high)

  pub nearly-high : z < z * m / 1099511627776 * d + 2 * d
  nearly-high =
      let far : z ≤ 1099511627776 = omega arith in
      within-two z (z * m / 1099511627776 * d) d (z * m * d) (z * d) some above-by below_by (mul-le-mul_right d far)

  pub nearly-byte : z * m / 1099511627776 ≤ 255
  nearly-byte = le_of_mul-le-mul_right {k = d} (omega (arith, nearly-low)) some
