-- A step in code: the units of a number are those of the definition, within its range, and values that are set one after another are those of
-- the definition. Assumes nothing.
use Prim.Native.Nat.{ℕ, zero, suc, ◌+◌, ◌<◌}
use mathlib.Core.Path.{◌≡◌, refl, ap, ap₂, ◌∙◌}
use mathlib.Core.List.{List, [], ◌∷◌}
use native.Mathlib.Omega.{arith}
use lib.ListN.{length, get_or, replicate}
use denote.Param.Members.{Mut, Called}
use Rattle.std.specs.Array.{IsFromFnResult, IsFromFnResultFrom}
use Rattle.filter.specs.Steps.{listed}

-- nothing but d
pub get_or_none : {A : Type 0} (d : A) (n k : ℕ) → get_or (replicate n d) k d ≡ d
get_or_none d zero k = refl
get_or_none d (suc n) zero = refl
get_or_none d (suc n) (suc k) = get_or_none d n k

-- a list with the elements f i .. f (i + n - 1)
listed_by : {A : Type 0} (f : ℕ → A) (d : A) (i n : ℕ) (v : List A) → length v ≡ n → ((k : ℕ) → k < n → get_or v k d ≡ f (i + k)) → v ≡ listed f i n
listed_by f d i zero [] e h = refl
listed_by f d i zero (x ∷ v) e h = absurd (omega arith)
listed_by f d i (suc n) [] e h = absurd (omega arith)
listed_by f d i (suc n) (x ∷ v) e h =
    let first : i + 0 ≡ i = omega arith in
    let next : (k : ℕ) → i + suc k ≡ suc i + k = λ k. omega arith in
    ap₂ ◌∷◌ (h 0 (omega arith) ∙ ap f first) (listed_by f d (suc i) n v (omega arith) (λ k l. h (suc k) (omega (arith, l)) ∙ ap f (next k)))

-- an array made by calls of f, each of which leaves f as it is
module _ {F A : Type 0} (g : Mut F (ℕ × Unit {0}) A) (f : F) (h : ℕ → A) (same : (i : ℕ) (y : A) (q : F) → Called g f (i, tt) y q → (y ≡ h i) × (q ≡ f)) where
  made_each : (d : A) (v : List A) (i n : ℕ) (p : F) → p ≡ f → IsFromFnResultFrom g p v i n → (k : ℕ) → k < n → get_or v (i + k) d ≡ h (i + k)
  made_each d v i zero p e r k l = absurd (omega (arith, l))
  made_each d v i (suc n) p e (q, y, item, call, rest) zero l =
      let first : i + 0 ≡ i = omega arith in
      rw first (item.1 d ∙ (same i y q (rw e at call)).0)
  made_each d v i (suc n) p e (q, y, item, call, rest) (suc k) l =
      let next : i + 1 + k ≡ i + suc k = omega arith in
      let there = made_each d v (i + 1) n q ((same i y q (rw e at call)).1) rest k (omega (arith, l)) in
      rw next at there

  pub made_listed : (d : A) (v : List A) (n : ℕ) → IsFromFnResult g f v n → v ≡ listed h 0 n
  made_listed d v n r = listed_by h d 0 n v r.long at
    where
      at : (k : ℕ) → k < n → get_or v k d ≡ h (0 + k)
      at k l = let q : 0 + k ≡ k = omega arith in let there = made_each d v 0 n f refl r.each k l in rw q (rw q at there)
