-- Several fields of one sort, read one after another: once for every sort. Assumes nothing.
use mathlib.Core.Path.{◌≡◌, refl, sym, ap, ◌∙◌}
use mathlib.Core.Bool.{Bool, true, false, ◌&&◌}
use mathlib.Core.List.{List, [], ◌∷◌, ◌++◌, map}
use Prim.Native.Nat.{ℕ, zero, suc, ◌+◌, ◌-◌, ◌≤◌, ◌<◌}
use native.Mathlib.Nat.{sub-zero}
use native.Mathlib.Numerals.{add-one}
use native.Mathlib.Omega.{arith}
use lib.ListN.{length, get_or, take, drop, set, replicate, length-append, length-map}
use lib.Seq.{take-suc, split_at, set_at, append_snoc, take_all, length-take-le}
use Rattle.std.specs.Prelude.{Option, Some, None, is_some, unwrap_or}
use Rattle.filter.specs.Steps.{listed}
use Rattle.text_step.specs.ManyFields.{all_fields, padded, array_of}

pub all-fields-append : (good : List ℕ → Bool) (a b : List (List ℕ)) → all_fields good (a ++ b) ≡ (all_fields good a && all_fields good b)
unfolding all_fields
all-fields-append good [] b = refl
all-fields-append good (f ∷ a) b = go (good f) (all-fields-append good a b)
  where
    go : (t : Bool) → all_fields good (a ++ b) ≡ (all_fields good a && all_fields good b) → (t && all_fields good (a ++ b)) ≡ ((t && all_fields good a) && all_fields good b)
    go true h = h
    go false h = refl

pub map-append : {A : Type 0} (value : List ℕ → A) (a b : List (List ℕ)) → map value (a ++ b) ≡ map value a ++ map value b
map-append value [] b = refl
map-append value (f ∷ a) b = ap (value f ∷◌) (map-append value a b)

-- what a loop over such fields keeps: i of n fields are of the form, and `hold` of what they say has been made
module _ {A B : Type 0} (good : List ℕ → Bool) (value : List ℕ → A) (hold : List A → B) where
  pub record FieldsGathered (fs : List (List ℕ)) (n i : ℕ) (made : B) : Type 0 where
    pub hi : i ≤ n
    pub size : length fs ≡ n
    pub right : all_fields good (take i fs) ≡ true
    pub is : made ≡ hold (map value (take i fs))

  pub fields-gathered-none : (fs : List (List ℕ)) (n : ℕ) {made : B} → length fs ≡ n → made ≡ hold [] → FieldsGathered fs n 0 made
  unfolding all_fields
  fields-gathered-none fs n e h = record { hi = omega arith; size = e; right = refl; is = h }

  module _ (fs : List (List ℕ)) (n i : ℕ) (made : B) (I : FieldsGathered fs n i made) where
    pub fields-gathered-more : {next : B} → i < n → good (get_or fs i []) ≡ true → next ≡ hold (map value (take i fs) ++ (value (get_or fs i []) ∷ [])) → FieldsGathered fs n (i + 1) next
    unfolding all_fields
    fields-gathered-more h e v =
        let l : i < length fs = omega (arith, I.size) in
        record {
          hi = omega arith;
          size = I.size;
          right = rw (add-one, take-suc fs i [], all-fields-append, I.right, e);
          is = v ∙ sym (rw (add-one, take-suc fs i [], map-append));
        }

    pub fields-gathered-bad : i < n → good (get_or fs i []) ≡ false → all_fields good fs ≡ false
    unfolding all_fields
    fields-gathered-bad h e =
        let l : i < length fs = omega (arith, I.size) in
        ap (all_fields good) (split_at fs i [] l) ∙ all-fields-append good (take i fs) (get_or fs i [] ∷ drop (suc i) fs) ∙ rw (I.right, e)

    pub fields-gathered-all : n ≤ i → (all_fields good fs ≡ true) × (made ≡ hold (map value fs))
    fields-gathered-all h =
        let t : take i fs ≡ fs = take_all i fs (omega (arith, I.size)) in
        (rw t at I.right, rw t at I.is)

    pub fields-gathered-length : length (map value (take i fs)) ≡ i
    fields-gathered-length = length-map (take i fs) value ∙ length-take-le i fs (omega (arith, I.size, I.hi))

pub padded-none : {A : Type 0} (m : ℕ) (z : A) → replicate m z ≡ padded m z []
unfolding padded
padded-none m z = rw (sub-zero m)

-- one value more in its place
pub padded-more : {A : Type 0} (m : ℕ) (z : A) (vs : List A) (x : A) (i : ℕ) → length vs ≡ i → i < m → set (padded m z vs) i x ≡ padded m z (vs ++ (x ∷ []))
unfolding padded
padded-more m z vs x i e h =
    let k : m - length vs ≡ suc (m - suc i) = omega arith in
    let l : m - length (vs ++ (x ∷ [])) ≡ m - suc i = omega (arith, length-append vs (x ∷ [])) in
    rw (k, l) (set_at vs z (replicate (m - suc i) z) x i e ∙ sym (append_snoc vs x (replicate (m - suc i) z)))

pub array-more : {A : Type 0} (good : List ℕ → Bool) (value : List ℕ → A) (m : ℕ) (z : A) (fs : List (List ℕ)) (n i : ℕ) (vs : List A) (x : A)
    → FieldsGathered good value (padded m z) fs n i vs → n ≤ m → i < n → good (get_or fs i []) ≡ true → value (get_or fs i []) ≡ x → FieldsGathered good value (padded m z) fs n (i + 1) (set vs i x)
array-more good value m z fs n i vs x I k h e v =
    fields-gathered-more good value (padded m z) fs n i vs I h e
    (ap (λ l. set l i x) I.is ∙ padded-more m z (map value (take i fs)) x i (fields-gathered-length good value (padded m z) fs n i vs I) (omega arith)
    ∙ ap (λ y. padded m z (map value (take i fs) ++ (y ∷ []))) (sym v))

-- fields by position: field i of n, and that there are n
listed_at : (f : ℕ → List ℕ) (i n k : ℕ) → k < n → get_or (listed f i n) k [] ≡ f (i + k)
listed_at f i zero k l = absurd (omega arith)
listed_at f i (suc n) zero l = let e : i + 0 ≡ i = omega arith in rw e
listed_at f i (suc n) (suc k) l = let e : i + suc k ≡ suc i + k = omega arith in rw e (listed_at f (suc i) n k (omega arith))

pub field_of : (f : ℕ → List ℕ) (n i : ℕ) → i < n → get_or (listed f 0 n) i [] ≡ f i
field_of f n i h = let e : 0 + i ≡ i = omega arith in listed_at f 0 n i h ∙ ap f e

pub fields-long : (f : ℕ → List ℕ) (i n : ℕ) → length (listed f i n) ≡ n
fields-long f i zero = refl
fields-long f i (suc n) = ap suc (fields-long f (suc i) n)

-- what a loop over fields that may say something keeps: what those so far say, in an array of m
module _ {A : Type 0} (value : List ℕ → Option A) (m : ℕ) (z : A) (fs : List (List ℕ)) where
  abbrev pub Filled : ℕ → ℕ → List A → Type 0
  Filled n i vs = FieldsGathered (λ f. is_some (value f)) (λ f. unwrap_or (value f) z) (padded m z) fs n i vs

  pub filled-none : (n : ℕ) → length fs ≡ n → Filled n 0 (replicate m z)
  filled-none n e = fields-gathered-none (λ f. is_some (value f)) (λ f. unwrap_or (value f) z) (padded m z) fs n e (padded-none m z)

  pub filled-more : (n i : ℕ) (vs : List A) {x : A} → Filled n i vs → n ≤ m → i < n → value (get_or fs i []) ≡ Some x → Filled n (i + 1) (set vs i x)
  filled-more n i vs {x} I k h e =
      array-more (λ f. is_some (value f)) (λ f. unwrap_or (value f) z) m z fs n i vs x I k h (ap (λ (o : Option A). is_some o) e) (ap (λ (o : Option A). unwrap_or o z) e)

  pub filled-bad : (n i : ℕ) (vs : List A) → Filled n i vs → i < n → value (get_or fs i []) ≡ None → None ≡ array_of value m z fs
  unfolding array_of
  filled-bad n i vs I h e =
      let b : all_fields (λ f. is_some (value f)) fs ≡ false =
      fields-gathered-bad (λ f. is_some (value f)) (λ f. unwrap_or (value f) z) (padded m z) fs n i vs I h (ap (λ (o : Option A). is_some o) e) in
      rw b

  pub filled-all : (n i : ℕ) (vs : List A) → Filled n i vs → n ≤ i → Some vs ≡ array_of value m z fs
  unfolding array_of
  filled-all n i vs I h =
      let a = fields-gathered-all (λ f. is_some (value f)) (λ f. unwrap_or (value f) z) (padded m z) fs n i vs I h in
      let g : all_fields (λ f. is_some (value f)) fs ≡ true = a.0 in
      let v : vs ≡ padded m z (map (λ f. unwrap_or (value f) z) fs) = a.1 in
      rw (g, v)
