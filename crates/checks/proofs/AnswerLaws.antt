-- The folds of the refusal table in code: the first refusal of some, and whether all inputs are allowed. Assumes nothing.
use Rattle.std.proofs.Common.{◌≡◌, ℕ, zero, suc, ◌+◌, ◌<◌, Ok, Err, refl, sym, ap, ◌∙◌, arith, add-one, Bool, true, false, ◌&&◌, List, length, get_or, take, MatchBool}
use Rattle.std.specs.List.{AllWithin, HoldsAt}
use Rattle.std.proofs.lemmas.List.{get_or-take, length-take}
use Rattle.std.proofs.Math.ListN.{get_or-eq_default}
use Rattle.filter.specs.declared.Input.{Input}
use Rattle.filter.specs.Steps.{no_input}
use native.Mathlib.Decide.{dec_lt}
use Rattle.filter.specs.declared.Refusal.{Refusal}
use Rattle.filter.specs.Answers.{Answer, accepted?}
use Rattle.filter.specs.Checks.{unless, or_else, first_of, all}
use Rattle.filter.proofs.PassedChecks.{else-err, else-ok}

-- none of the first i is refused, and so is none of one more where that is not
pub none-more : (f : ℕ → Answer) (i : ℕ) {a : Answer} → first_of f i ≡ Ok tt → a ≡ f i → a ≡ Ok tt → first_of f (i + 1) ≡ Ok tt
unfolding first_of accepted?
none-more f i h e o = rw (add-one, h, ← e) o

-- none of the first i is refused, and the next one is: it is the answer to all
pub first-refused : (f : ℕ → Answer) (n i : ℕ) {a : Answer} {r : Refusal} → i < n → first_of f i ≡ Ok tt → a ≡ f i → a ≡ Err r → first_of f n ≡ Err r
unfolding first_of accepted?
first-refused f zero i l h e o = absurd (omega arith)
first-refused f (suc n) i {a} {r} l h e o =
    elim (dec_lt i n) [
      | yes m ↦ rw (first-refused f n i m h e o) (else-err r (f n))
      | no m ↦ (let q : i ≡ n = omega arith in ap (λ k. or_else (first_of f k) (f k)) (sym q) ∙ rw (h, ← e) o)
    ]

-- a test as an answer, and what comes after it
pub then : (b : Bool) (r : Refusal) (a : Answer) → unless b (Err r) a ≡ or_else (unless b (Err r) (Ok tt)) a
then true r a = sym (else-ok tt a)
then false r a = sym (else-err r a)

-- whether each of the first n inputs passes a test
all-true : (f : ℕ → Bool) (n : ℕ) → ((k : ℕ) → k < n → f k ≡ true) → all f n ≡ true
unfolding all
all-true f zero h = refl
all-true f (suc n) h = rw (all-true f n (λ k l. h k (omega arith)), h n (omega arith))

all-false : (f : ℕ → Bool) (n k : ℕ) → k < n → f k ≡ false → all f n ≡ false
unfolding all
all-false f zero k l e = absurd (omega arith)
all-false f (suc n) k l e = elim (dec_lt k n) [ yes m ↦ rw (all-false f n k m e) | no m ↦ (let q : k ≡ n = omega arith in last (all f n) (ap f (sym q) ∙ e)) ]
  where
    last : (b : Bool) → f n ≡ false → (b && f n) ≡ false
    last true e = e
    last false e = refl

-- behind the last input stands one that passes
pub all-taken : (p : Input → Bool) (xs : List Input) (n : ℕ) (b : Bool) → p no_input ≡ true
    → MatchBool b (AllWithin (λ x. p x ≡ true) (take n xs) 0 (length (take n xs))) ((k : ℕ) × (k < length (take n xs)) × HoldsAt (λ x. p x ≡ false) (take n xs) k)
    → b ≡ all (λ i. p (get_or xs i no_input)) n
all-taken p xs n true o h = sym (all-true _ n at)
  where
    at : (k : ℕ) → k < n → p (get_or xs k no_input) ≡ true
    at k m =
        elim (dec_lt k (length (take n xs))) [
          | yes l ↦ sym (ap p (get_or-take n xs k no_input m)) ∙ h k no_input (omega arith) l
          | no l ↦ ap p (get_or-eq_default xs no_input (omega (arith, length-take n xs))) ∙ o
        ]
all-taken p xs n false o h =
    let m : h.0 < n = omega (arith, length-take n xs, h.1) in
    sym (all-false _ n h.0 m (sym (ap p (get_or-take n xs h.0 no_input m)) ∙ h.2 no_input))

-- what `?` makes of two answers
pub ruleset joined = (else-err, else-ok, then)
