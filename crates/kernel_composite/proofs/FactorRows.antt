-- The four bytes of a pixel one by one, and the rows of factors read back. Assumes nothing.
use mathlib.Core.Path.{◌≡◌, refl, ap, subst}
use mathlib.Core.Bool.{Bool, true, false, false≢true}
use mathlib.Core.List.{List}
use mathlib.Core.Logic.{⊎_elim}
use Prim.Native.Nat.{ℕ, ◌+◌, ◌-◌, ◌*◌, ◌/◌, ◌<◌}
use native.Mathlib.Omega.{arith}
use Rattle.window.proofs.Store.{lt-or-le}
use Rattle.pixel.specs.declared.Pixel.{Pixel}
use Rattle.pixel.specs.declared.Operator.{Operator}
use Rattle.pixel.specs.declared.Operator.TheVariants.{Over, In, Out, Atop, Xor}
use Rattle.pixel.specs.Bytes.{pixel_at, Painted}
use Rattle.kernel_composite.specs.BytePairs.{pair_at}
use Rattle.kernel_composite.specs.Factors.{twice, alpha_in, Factors, FactorRow, FactorRows}

-- what holds of the four bytes of the pixel of i holds of i
pub by-channel : (P : ℕ → Type 0) (i : ℕ) → P (4 * (i / 4)) → P (4 * (i / 4) + 1) → P (4 * (i / 4) + 2) → P (4 * (i / 4) + 3) → P i
by-channel P i p0 p1 p2 p3 = ⊎_elim
    (λ h. ⊎_elim
    (λ k. let e : 4 * (i / 4) ≡ i = omega arith in subst P e p0)
    (λ k. let e : 4 * (i / 4) + 1 ≡ i = omega arith in subst P e p1)
    (lt-or-le i (4 * (i / 4) + 1)))
    (λ h. ⊎_elim
    (λ k. let e : 4 * (i / 4) + 2 ≡ i = omega arith in subst P e p2)
    (λ k. let e : 4 * (i / 4) + 3 ≡ i = omega arith in subst P e p3)
    (lt-or-le i (4 * (i / 4) + 3)))
    (lt-or-le i (4 * (i / 4) + 2))

-- a row of factors read back
factor-at : (φ : ℕ → ℕ) (n : ℕ) (d d' : List ℕ) → Painted (λ x. twice (φ x)) 0 0 n d d' → (j : ℕ) → j < 2 * n → pair_at d' j ≡ φ (j / 2)
factor-at φ n d d' P j h =
    let z : 0 + 4 * (j / 2) ≡ 4 * (j / 2) = omega arith in
    let e : pixel_at d' (4 * (j / 2)) ≡ twice (φ (j / 2)) = rw z at (P.inside (j / 2) (omega arith) (omega arith)) in
    ⊎_elim
    (λ k.
    let q : 2 * j ≡ 4 * (j / 2) = omega arith in
    rw q (omega (arith, ap (λ (p : Pixel). p.r) e, ap (λ (p : Pixel). p.g) e)))
    (λ k.
    let q : 2 * j ≡ 4 * (j / 2) + 2 = omega arith in
    let t : 4 * (j / 2) + 2 + 1 ≡ 4 * (j / 2) + 3 = omega arith in
    rw (q, t) (omega (arith, ap (λ (p : Pixel). p.b) e, ap (λ (p : Pixel). p.a) e)))
    (lt-or-le j (2 * (j / 2) + 1))

-- the rows that `alphas` and `inverse_alphas` leave
abbrev pub Alphas : List ℕ → ℕ → List ℕ → List ℕ → Type 0
Alphas a n = Painted (λ x. twice (alpha_in a x)) 0 0 n

abbrev pub InverseAlphas : List ℕ → ℕ → List ℕ → List ℕ → Type 0
InverseAlphas a n = Painted (λ x. twice (255 - alpha_in a x)) 0 0 n

module _ (a b : List ℕ) (n : ℕ) (f g f' g' : List ℕ) where
  pub over-rows : InverseAlphas a n g g' → FactorRows Over a b n f g f g'
  unfolding FactorRow
  over-rows G = record { of_a = refl; of_b = G }

  pub in_rows : Alphas b n f f' → FactorRows In a b n f g f' g
  unfolding FactorRow
  in_rows F = record { of_a = F; of_b = refl }

  pub out-rows : InverseAlphas b n f f' → FactorRows Out a b n f g f' g
  unfolding FactorRow
  out-rows F = record { of_a = F; of_b = refl }

  pub atop-rows : Alphas b n f f' → InverseAlphas a n g g' → FactorRows Atop a b n f g f' g'
  unfolding FactorRow
  atop-rows F G = record { of_a = F; of_b = G }

  pub xor-rows : InverseAlphas b n f f' → InverseAlphas a n g g' → FactorRows Xor a b n f g f' g'
  unfolding FactorRow
  xor-rows F G = record { of_a = F; of_b = G }

-- a row that is stored holds the factor
row-holds : (t : Bool) (φ : ℕ → ℕ) (n : ℕ) (f f' : List ℕ) → FactorRow t φ n f f' → t ≡ true → (j : ℕ) → j < 2 * n → pair_at f' j ≡ φ (j / 2)
unfolding FactorRow
row-holds true φ n f f' H e = factor-at φ n f f' H
row-holds false φ n f f' H e = absurd (false≢true e)

pub rows-hold : (o : Operator) (a b : List ℕ) (n : ℕ) (f g f' g' : List ℕ) → FactorRows o a b n f g f' g' → Factors o a b f' g' n
rows-hold o a b n f g f' g' H = record { of_a = row-holds _ _ n f f' H.of_a; of_b = row-holds _ _ n g g' H.of_b }
