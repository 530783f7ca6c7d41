-- A reciprocal that is rounded up divides, where a test says that the rounding does not count. Assumes nothing.
use Rattle.std.proofs.Common.{ℕ, ◌+◌, ◌-◌, ◌*◌, ◌≤◌, ◌<◌, ◌^◌, ◌≡◌, ap, ◌∙◌, arith, ⊎_elim}
use native.Mathlib.Nat.{mul_assoc, mul-add, mul-le-mul, mul-le-mul_right, div-div-eq-div-mul}
use lib.Pow.{pow_mono}
use Rattle.window.proofs.Numbers.{quotient}
use Rattle.window.proofs.Store.{lt-or-le}
use Rattle.kernel_sums.specs.Reciprocal.{Divides, LargestBelow, ceiling}
use Rattle.kernel_sums.proofs.ReciprocalDivides.{up_least, up-most}

module _ (shift size mul : ℕ) (largest : LargestBelow shift size) (limit : size ≤ 257) (mul_is : mul ≡ ceiling (2 ^ shift * 65536) size) where
  pub least : 2 ^ shift * 65536 ≤ mul * size
  least = rw mul_is (up_least (2 ^ shift * 65536) size (omega (arith, largest.below)))

  most : mul * size < 2 ^ shift * 65536 + size
  most = rw mul_is (up-most (2 ^ shift * 65536) size (omega (arith, largest.below)))

  pub small : shift < 16
  small = ⊎_elim (λ l. l) (λ l. let big : 2 ^ 16 ≤ 2 ^ shift = pow_mono l in absurd (omega (arith, largest.below))) (lt-or-le shift 16)

  -- how far the reciprocal is off, over all the sums
  pub excess : 256 * size * (mul * size - 2 ^ shift * 65536) ≤ 16842752
  excess = mul-le-mul {n₁ = 256 * size} {m₁ = mul * size - 2 ^ shift * 65536} {n₂ = 65792} {m₂ = 256} (omega arith) (omega (arith, most))

  pub divides : 256 * size * (mul * size - 2 ^ shift * 65536) < 2 ^ shift * 65536 → Divides mul shift size
  divides test = record {
    exact = λ t le.
        let l : t ≤ 256 * size = omega arith in
        div-div-eq-div-mul (t * mul) 65536 (2 ^ shift)
        ∙ quotient (t * mul) t size (65536 * 2 ^ shift) (t * (mul * size - 2 ^ shift * 65536)) (omega (arith, largest.below))
        (mul_assoc t mul size
        ∙ ap (λ (x : ℕ). t * x) (omega (arith, least))
        ∙ mul-add t (65536 * 2 ^ shift) (mul * size - 2 ^ shift * 65536))
        (omega (arith, test, mul-le-mul_right (mul * size - 2 ^ shift * 65536) l));
    small = small;
    some = omega (arith, largest.below);
  }
