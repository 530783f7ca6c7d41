-- The parts of a number's field. Assumes nothing.
use mathlib.Core.Path.{◌≡◌, refl, sym, ◌∙◌}
use mathlib.Core.Bool.{Bool, true, false, cond}
use mathlib.Core.List.{List, [], ◌∷◌}
use Prim.Native.Nat.{ℕ, suc, ◌+◌, ◌-◌, ◌*◌, ◌≤◌, ◌<◌, ◌^◌}
use native.Mathlib.Nat.{mul-le-mul_left, pow-le-pow_right}
use native.Mathlib.Numerals.{add-one}
use native.Mathlib.Omega.{arith}
use lib.Dec.{eqb, ltb, lit≤, lit<}
use lib.ListN.{length, get_or, take, drop}
use Rattle.text_field.specs.Split.{index_of}
use Rattle.text_field.specs.Field.{digits_of, natural_of, hex_of, scaled, ten_thousandths, fraction_of, magnitude_of, numeral_of, single_of, decimal_of}
use Rattle.std.specs.Cmp.Lexicographic.{pointwise}
use Rattle.number.specs.declared.Number.{Number}
use Rattle.std.specs.Prelude.{◌&&◌, Option, Some, None, IfSome}
use Rattle.std.proofs.lemmas.List.{take_rest}
use Rattle.text_field.proofs.DigitNumbers.{digits-below, natural-below}

tenths-le : (k : ℕ) → 10 ^ (4 - k) ≤ 10000
tenths-le k = let l : 4 - k ≤ 4 = omega arith in let h : 10 ^ (4 - k) ≤ 10 ^ 4 = pow-le-pow_right (lit≤ tt) l in h

pub scaled-below : (k : ℕ) (r : Option ℕ) → IfSome r (λ n. n < 10000) → IfSome (scaled k r) (λ n. n < 100000001)
scaled-below k (Some m) h =
    let a : m * 10 ^ (4 - k) ≤ m * 10000 = mul-le-mul_left m (tenths-le k) in
    omega arith
scaled-below k None h = tt

pub fraction-below : (s : List ℕ) → IfSome (fraction_of s) (λ n. n < 100000001)
unfolding fraction_of
fraction-below s = scaled-below (length s) (digits_of 10 4 s) (digits-below 10 4 s (lit≤ tt))

pub ten_thousandths-below : (a b : Option ℕ) → IfSome a (λ n. n < 100000) → IfSome b (λ n. n < 100000001) → IfSome (ten_thousandths a b) (λ n. n < 1100000000)
ten_thousandths-below (Some n) (Some m) h k = omega arith
ten_thousandths-below (Some n) None h k = tt
ten_thousandths-below None m h k = tt

pub magnitude-below : (s : List ℕ) → IfSome (magnitude_of s) (λ n. n < 1100000000)
unfolding magnitude_of
magnitude-below s = go (ltb (index_of 46 s) (length s))
  where
    go : (t : Bool) → IfSome (cond t (ten_thousandths (natural_of 5 (take (index_of 46 s) s)) (fraction_of (drop (suc (index_of 46 s)) s))) (ten_thousandths (natural_of 5 s) (Some 0))) (λ n. n < 1100000000)
    go true = ten_thousandths-below (natural_of 5 (take (index_of 46 s) s)) (fraction_of (drop (suc (index_of 46 s)) s)) (natural-below 5 (take (index_of 46 s) s)) (fraction-below (drop (suc (index_of 46 s)) s))
    go false = ten_thousandths-below (natural_of 5 s) (Some 0) (natural-below 5 s) (lit< tt)

-- a field up to its point, and behind it
pub magnitude-point : (f : List ℕ) (p : ℕ) {a b o : Option ℕ} → Some p ≡ cond (ltb (index_of 46 f) (length f)) (Some (index_of 46 f)) None → a ≡ natural_of 5 (take p f) → b ≡ fraction_of (take (length f - (p + 1)) (drop (p + 1) f)) → o ≡ ten_thousandths a b → o ≡ magnitude_of f
unfolding magnitude_of
magnitude-point f p {a} {b} {o} e x y z = go (ltb (index_of 46 f) (length f)) e
  where
    go : (t : Bool) → Some p ≡ cond t (Some (index_of 46 f)) None → o ≡ cond t (ten_thousandths (natural_of 5 (take (index_of 46 f) f)) (fraction_of (drop (suc (index_of 46 f)) f))) (ten_thousandths (natural_of 5 f) (Some 0))
    go true h = let q : index_of 46 f ≡ p = cc in z ∙ rw (x, y, take_rest f (p + 1), q, add-one)
    go false h = absurd (cc)

pub magnitude-whole : (f : List ℕ) {a o : Option ℕ} → None ≡ cond (ltb (index_of 46 f) (length f)) (Some (index_of 46 f)) None → a ≡ natural_of 5 f → o ≡ ten_thousandths a (Some 0) → o ≡ magnitude_of f
unfolding magnitude_of
magnitude-whole f {a} {o} e x z = go (ltb (index_of 46 f) (length f)) e
  where
    go : (t : Bool) → None ≡ cond t (Some (index_of 46 f)) None → o ≡ cond t (ten_thousandths (natural_of 5 (take (index_of 46 f) f)) (fraction_of (drop (suc (index_of 46 f)) f))) (ten_thousandths (natural_of 5 f) (Some 0))
    go true h = absurd (cc)
    go false h = z ∙ rw x

-- the byte that a prefix of one byte tests
pub head-is : (f : List ℕ) (d : ℕ) → eqb 0 d ≡ false → pointwise eqb (take 1 f) (d ∷ []) ≡ eqb (get_or f 0 0) d
head-is [] d h = sym h
head-is (x ∷ s) d h = go (eqb x d)
  where
    go : (b : Bool) → (b && true) ≡ b
    go true = refl
    go false = refl

pub number-single : (f : List ℕ) {g : List ℕ} {a : Option ℕ} {o : Option Number} → (pointwise eqb (take 1 f) (120 ∷ []) ≡ true) × (g ≡ drop 1 f) → a ≡ hex_of g → o ≡ single_of a → o ≡ numeral_of f
unfolding numeral_of
number-single f {g} h x z =
    let e : eqb (get_or f 0 0) 120 ≡ true = sym (head-is f 120 refl) ∙ h.0 in
    let d = h.1 in
    z ∙ rw (x, d, e)

pub number-minus : (f : List ℕ) {g : List ℕ} {a : Option ℕ} {o : Option Number} → pointwise eqb (take 1 f) (120 ∷ []) ≡ false → (pointwise eqb (take 1 f) (45 ∷ []) ≡ true) × (g ≡ drop 1 f) → a ≡ magnitude_of g → o ≡ decimal_of true a → o ≡ numeral_of f
unfolding numeral_of
number-minus f {g} n h x z =
    let l : eqb (get_or f 0 0) 120 ≡ false = sym (head-is f 120 refl) ∙ n in
    let e : eqb (get_or f 0 0) 45 ≡ true = sym (head-is f 45 refl) ∙ h.0 in
    let d = h.1 in
    z ∙ rw (x, d, l, e)

pub number-plus : (f : List ℕ) {a : Option ℕ} {o : Option Number} → pointwise eqb (take 1 f) (120 ∷ []) ≡ false → pointwise eqb (take 1 f) (45 ∷ []) ≡ false → a ≡ magnitude_of f → o ≡ decimal_of false a → o ≡ numeral_of f
unfolding numeral_of
number-plus f n m x z =
    let l : eqb (get_or f 0 0) 120 ≡ false = sym (head-is f 120 refl) ∙ n in
    let k : eqb (get_or f 0 0) 45 ≡ false = sym (head-is f 45 refl) ∙ m in
    z ∙ rw (x, l, k)
