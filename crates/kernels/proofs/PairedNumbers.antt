-- Numbers that are put together from pairs, one after another, are those of the definition. Assumes nothing.
use Prim.Native.Nat.{ℕ, zero, suc, ◌+◌, ◌<◌}
use mathlib.Core.Path.{◌≡◌, refl, ap, ap₂, ◌∙◌}
use mathlib.Core.List.{List, [], ◌∷◌}
use native.Mathlib.Decide.{ℕ_discrete}
use native.Mathlib.Omega.{arith}
use lib.ListN.{length, get_or, set, length-set, replicate}
use lib.Seq.{get_or-set_same, get_or-set_other}
use Rattle.number.specs.declared.Fixed.{Fixed}
use Rattle.kernels.specs.PlainNumbers.{units, pair_at, pairs_from, paired_values}

-- the first n numbers stand in their places
pub record Paired (l : List ℕ) (n : ℕ) (v : List Fixed) : Type 0 where
  pub slots : length v ≡ 64
  pub each : (k : ℕ) → k < n → get_or v k (units 0) ≡ pair_at l k

pub paired_none : (l : List ℕ) → Paired l 0 (replicate 64 (units 0))
paired_none l = record { slots = refl; each = λ k m. absurd (omega (arith, m)) }

pub paired-more : (l : List ℕ) (n : ℕ) (v : List Fixed) → n < 64 → Paired l n v → Paired l (n + 1) (set v n (pair_at l n))
paired-more l n v s h = record { slots = length-set v n (pair_at l n) ∙ h.slots; each = each }
  where
    each : (k : ℕ) → k < n + 1 → get_or (set v n (pair_at l n)) k (units 0) ≡ pair_at l k
    each k m = go (ℕ_discrete k n)
      where
        go : Dec (k ≡ n) → get_or (set v n (pair_at l n)) k (units 0) ≡ pair_at l k
        go (yes q) = rw (q, get_or-set_same v n (pair_at l n) (units 0) (omega (arith, h.slots))) refl
        go (no ne) = rw (get_or-set_other v n k (pair_at l n) (units 0) ne) (h.each k (omega arith))

pairs-by : (l : List ℕ) (i n : ℕ) (v : List Fixed) → length v ≡ n → ((k : ℕ) → k < n → get_or v k (units 0) ≡ pair_at l (i + k)) → v ≡ pairs_from l i n
pairs-by l i zero [] e h = refl
pairs-by l i zero (x ∷ v) e h = absurd (omega arith)
pairs-by l i (suc n) [] e h = absurd (omega arith)
pairs-by l i (suc n) (x ∷ v) e h =
    let first : i + 0 ≡ i = omega arith in
    let next : (k : ℕ) → i + suc k ≡ suc i + k = λ k. omega arith in
    ap₂ ◌∷◌ (h 0 (omega arith) ∙ ap (pair_at l) first) (pairs-by l (suc i) n v (omega arith) (λ k m. h (suc k) (omega (arith, m)) ∙ ap (pair_at l) (next k)))

pub paired-all : (l : List ℕ) (v : List Fixed) → Paired l 64 v → v ≡ paired_values l
unfolding paired_values
paired-all l v h = pairs-by l 0 64 v h.slots at
  where
    at : (k : ℕ) → k < 64 → get_or v k (units 0) ≡ pair_at l (0 + k)
    at k m = let q : 0 + k ≡ k = omega arith in rw q (h.each k m)
