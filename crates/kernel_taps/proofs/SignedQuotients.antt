-- The rounded quotient of a sum that is given by two natural sums, by a divisor of so many units. Assumes nothing.
use Prim.Native.Nat.{ℕ, zero, suc, ◌+◌, ◌-◌, ◌*◌, ◌/◌, ◌≤◌, ◌<◌, min}
use mathlib.Core.Path.{◌≡◌, refl, sym, subst, ◌∙◌, ap}
use mathlib.Core.Bool.{Bool, true, false, cond}
use mathlib.Core.Logic.{⊎_elim}
use native.Mathlib.Nat.{mul-add, mul_comm, mul_assoc, mul-sub, mul-pos}
use native.Mathlib.Nat.{mul-div-mul_left, mul-div_cancel, div-div-eq-div-mul, div-lt_iff_lt-mul, le-div_iff_mul-le}
use native.Mathlib.Omega.{arith}
use lib.IntN.{ℤ, pos, negsuc, neg_ℤ, ◌+ℤ◌, ◌*ℤ◌, zero-*ℤ}
use Rattle.window.proofs.Store.{lt-or-le}
use Rattle.number.specs.Number.{value}
use Rattle.number.specs.declared.Fixed.{Fixed}
use Rattle.pixel.specs.Whole.{◌÷◌, limited, nearest_up}
use Rattle.pixel.specs.Convolve.{quotient}
use Rattle.pixel.proofs.SignedSums.{Diff, diff-add, diff-by, diff-plus, diff-limited}
use Rattle.kernel_taps.specs.Taps.{Scaled}
use Rattle.kernel_lines.proofs.Divisors.{diff_is}

-- limited before the division, or behind it
pub min-div : (x size : ℕ) → 0 < size → min x (255 * size) / size ≡ min (x / size) 255
min-div x size p = ⊎_elim
    (λ (l : x < 255 * size).
    let e : min x (255 * size) ≡ x = omega arith in
    let h : x / size < 255 = (div-lt_iff_lt-mul p).1 l in
    rw e (omega arith))
    (λ (l : 255 * size ≤ x).
    let e : min x (255 * size) ≡ 255 * size = omega arith in
    let h : 255 ≤ x / size = (le-div_iff_mul-le p).1 l in
    rw e (omega (arith, mul-div_cancel 255 p)))
    (lt-or-le x (255 * size))

pub diff-neg : {z : ℤ} {a b : ℕ} → Diff z a b → Diff (neg_ℤ z) b a
diff-neg {z = pos zero} h = record { same = omega (arith, h.same) }
diff-neg {z = pos (suc n)} h = record { same = omega (arith, h.same) }
diff-neg {z = negsuc n} h = record { same = omega (arith, h.same) }

no_bias : (alpha : ℕ) (d : ℤ) → Diff (pos 0 *ℤ pos alpha *ℤ d) 0 0
no_bias alpha d =
    subst (λ (x : ℤ). Diff x 0 0) (sym (ap (λ (x : ℤ). x *ℤ d) (zero-*ℤ (pos alpha)) ∙ zero-*ℤ d)) (record { same = refl })

-- the units and the 65,536 of the definition fall out
cancelled : (unit size a b : ℕ) → 0 < unit
    → (2 * (65536 * (unit * a) + 0) + 65536 * (unit * size) - 2 * (65536 * (unit * b) + 0)) / (2 * (65536 * (unit * size))) ≡ (a + size / 2 - b) / size
cancelled unit size a b p =
    let x : ℕ = 2 * a + size - 2 * b in
    let s : unit * x ≡ unit * (2 * a + size) - unit * (2 * b) = mul-sub unit (2 * a + size) (2 * b) in
    let s1 : unit * (2 * a + size) ≡ unit * (2 * a) + unit * size = mul-add unit (2 * a) size in
    let s2 : unit * (2 * a) ≡ 2 * (unit * a) = times unit a in
    let s3 : unit * (2 * b) ≡ 2 * (unit * b) = times unit b in
    let s4 : unit * (2 * size) ≡ 2 * (unit * size) = times unit size in
    let top : 2 * (65536 * (unit * a) + 0) + 65536 * (unit * size) - 2 * (65536 * (unit * b) + 0) ≡ 65536 * (unit * x) = omega (arith, s, s1, s2, s3) in
    let low : 2 * (65536 * (unit * size)) ≡ 65536 * (unit * (2 * size)) = omega (arith, s4) in
    let half : x / 2 ≡ a + size / 2 - b = omega arith in
    rw (top, low)
    (mul-div-mul_left (unit * x) (unit * (2 * size)) (omega arith)
    ∙ mul-div-mul_left x (2 * size) p
    ∙ sym (div-div-eq-div-mul x 2 size)
    ∙ ap (λ (y : ℕ). y / size) half)
  where
    times : (u y : ℕ) → u * (2 * y) ≡ 2 * (u * y)
    times u y = sym (mul_assoc u 2 y) ∙ ap (λ (q : ℕ). q * y) (mul_comm u 2) ∙ mul_assoc 2 u y

-- the numerator of the definition, without bias
numerator : (alpha p q : ℕ) (z d : ℤ) → Diff z p q → Diff (pos 65536 *ℤ z +ℤ pos 0 *ℤ pos alpha *ℤ d) (65536 * p + 0) (65536 * q + 0)
numerator alpha p q z d h = diff-add (diff-by 65536 h) (no_bias alpha d)

near-below : (n : ℤ) (q : ℕ) → 0 < q → nearest_up n (neg_ℤ (pos q)) ≡ (pos 2 *ℤ neg_ℤ n +ℤ pos q) ÷ (2 * q)
near-below n zero l = absurd (omega arith)
near-below n (suc q) l = refl

module _ (unit size a b alpha : ℕ) (some : 0 < unit) where
  above_zero : (z : ℤ) → Diff z (unit * a) (unit * b) → quotient z (pos 0) alpha (pos (unit * size)) ≡ min ((a + size / 2 - b) / size) 255
  unfolding quotient
  above_zero z h =
      diff-limited (2 * (65536 * (unit * size)))
      (diff-plus (65536 * (unit * size)) (diff-by 2 (numerator alpha (unit * a) (unit * b) z (pos (unit * size)) h)))
      ∙ ap (λ (x : ℕ). min x 255) (cancelled unit size a b some)

  below-zero : (z : ℤ) (w : ℕ) → unit * size ≡ suc w → Diff z (unit * b) (unit * a)
      → quotient z (pos 0) alpha (negsuc w) ≡ min ((a + size / 2 - b) / size) 255
  unfolding quotient
  below-zero z w e h =
      ap limited (near-below (pos 65536 *ℤ z +ℤ pos 0 *ℤ pos alpha *ℤ negsuc w) (65536 * suc w) (omega arith))
      ∙ diff-limited (2 * (65536 * suc w))
      (diff-plus (65536 * suc w) (diff-by 2 (diff-neg (numerator alpha (unit * b) (unit * a) z (negsuc w) h))))
      ∙ ap (λ (x : ℕ). min x 255)
      (ap (λ (c : ℕ). (2 * (65536 * (unit * a) + 0) + 65536 * c - 2 * (65536 * (unit * b) + 0)) / (2 * (65536 * c))) (sym e) ∙ cancelled unit size a b some)

  pub scaled-quotient : (z divisor : ℤ) (d : Fixed) (negative : Bool) → 0 < size → value d ≡ divisor → Scaled d negative unit size
      → Diff z (cond negative (unit * b) (unit * a)) (cond negative (unit * a) (unit * b))
      → quotient z (pos 0) alpha divisor ≡ min ((a + size / 2 - b) / size) 255
  scaled-quotient z divisor d false p e s h =
      let far : Diff (pos (unit * size)) d.above d.below = record { same = omega (arith, s.same) } in
      let is : divisor ≡ pos (unit * size) = sym e ∙ diff_is far in
      rw is (above_zero z h)
  scaled-quotient z divisor d true p e s h =
      let w : ℕ = unit * size - 1 in
      let q : unit * size ≡ suc w = omega (arith, mul-pos some p) in
      let far : Diff (negsuc w) d.above d.below = record { same = omega (arith, s.same, q) } in
      let is : divisor ≡ negsuc w = sym e ∙ diff_is far in
      rw is (below-zero z w q h)
