-- Laws of lines in a buffer: a run of lines more, stored from lines that lie apart from it. Assumes nothing.
use mathlib.Core.Path.{◌≡◌, refl, sym, ap, ap₂, ◌∙◌}
use mathlib.Core.List.{List}
use mathlib.Core.Logic.{inl, inr, ⊎_elim}
use Prim.Native.Nat.{ℕ, ◌+◌, ◌-◌, ◌*◌, ◌≤◌, ◌<◌}
use native.Mathlib.Nat.{mul-le-mul_right}
use native.Mathlib.Omega.{arith}
use lib.ListN.{get_or}
use Rattle.window.specs.Store.{Filled, Lined, byte_at}
use Rattle.window.proofs.Store.{lt-or-le, lined-outside}
use Rattle.window.specs.Ranges.{Apart}
use Rattle.kernel_fold.specs.Lines.{earlier, later, paired_lines, around_line}
use Rattle.kernel_fold.proofs.Neighbours.{earlier-is, later-is}
use Rattle.kernel_fold.proofs.Semilattices.{Semilattice, twice, again-first}

-- bytes at an index of one range, put together, by the index of the range that is stored
abbrev pub folded_shifted : (ℕ → ℕ → ℕ) → List ℕ → ℕ → ℕ → ℕ → ℕ → ℕ
folded_shifted op d from shift to j = op (get_or d (from + (j - to)) 0) (get_or d (from + shift + (j - to)) 0)

abbrev pub folded_three : (ℕ → ℕ → ℕ) → List ℕ → ℕ → ℕ → ℕ → ℕ → ℕ → ℕ
folded_three op d w x y to j = op (op (get_or d (w + (j - to)) 0) (get_or d (x + (j - to)) 0)) (get_or d (y + (j - to)) 0)

-- a byte of a line lies among the bytes of the lines
pub line-in : (n count v i : ℕ) → v < count → i < n → v * n + i < count * n
line-in n count v i h l = omega (arith, mul-le-mul_right n h)

pub lined-none : (f : ℕ → ℕ → ℕ) (o n : ℕ) (d : List ℕ) → Lined f o n 0 d d
lined-none f o n d = record { inside = λ v i h l. absurd (omega arith); before = λ i h. refl; after = λ i h. refl; long = refl }

-- r lines more, the bytes of which were stored as one range
pub lined-run : (f : ℕ → ℕ → ℕ) (g : ℕ → ℕ) (o n x r : ℕ) (d d₁ d₂ : List ℕ) → Lined f o n x d d₁ → Filled g (o + x * n) (o + x * n + r * n) d₁ d₂
    → ((j i : ℕ) → j < r → i < n → g (o + x * n + (j * n + i)) ≡ f (x + j) i) → Lined f o n (x + r) d d₂
lined-run f g o n x r d d₁ d₂ L F same = record {
  inside = λ v i h l. ⊎_elim
      (λ g. F.before (o + v * n + i) (omega (arith, line-in n x v i g l)) ∙ L.inside v i g l)
      (λ g.
      let j = v - x in
      let q : v ≡ x + j = omega arith in
      let e : o + (x + j) * n + i ≡ o + x * n + (j * n + i) = omega arith in
      let k : j < r = omega arith in
      rw q (ap (λ (z : ℕ). get_or d₂ z 0) e ∙ F.inside (o + x * n + (j * n + i)) (omega arith) (omega (arith, line-in n r j i k l)) ∙ same j i k l))
      (lt-or-le v x);
  before = λ i h. F.before i (omega arith) ∙ L.before i h;
  after = λ i h. F.after i (omega arith) ∙ L.after i (omega arith);
  long = F.long ∙ L.long;
}

-- lines that lie apart from those that are stored are as they were
pub source : (f : ℕ → ℕ → ℕ) (from to n count x v i : ℕ) (d d' : List ℕ) → Apart from (count * n) to (count * n) → x ≤ count → Lined f to n x d d' → v < count → i < n
    → byte_at d' from n v i ≡ byte_at d from n v i
source f from to n count x v i d d' apart fits L h l =
    let k = line-in n count v i h l in
    let p : x * n ≤ count * n = mul-le-mul_right n fits in
    lined-outside _ _ _ _ _ _ (from + v * n + i) L (⊎_elim (λ g. inl (omega (arith, k))) (λ g. inr (omega (arith, p))) apart)

-- The lines x up to x + r at `to`, each from the lines w and w + u at `from` counted on with it, whose bytes are stored as one range.
module _ (op : ℕ → ℕ → ℕ) (from to n count x r w u : ℕ) (f : ℕ → ℕ → ℕ) (d d₁ d₂ : List ℕ) (apart : Apart from (count * n) to (count * n)) (fits : x + r ≤ count)
    (reads : w + u + r ≤ count) (same : (j i : ℕ) → j < r → f (x + j) i ≡ op (byte_at d from n (w + j) i) (byte_at d from n (w + u + j) i)) (L : Lined f to n x d d₁) where
  was : (v i : ℕ) → v < count → i < n → byte_at d₁ from n v i ≡ byte_at d from n v i
  was v i = source _ from to n count x v i d d₁ apart (omega arith) L

  pub run_more : (at first shift size : ℕ) → at ≡ to + x * n → first ≡ from + w * n → shift ≡ u * n → size ≡ r * n
      → Filled (folded_shifted op d₁ first shift at) at (at + size) d₁ d₂ → Lined f to n (x + r) d d₂
  run_more at first shift size e₁ e₂ e₃ e₄ F = lined-run _ _ to n x r d d₁ d₂ L (rw (e₁, e₂, e₃, e₄) at F)
      (λ j i h l.
      let k : to + x * n + (j * n + i) - (to + x * n) ≡ j * n + i = omega arith in
      let a : from + w * n + (j * n + i) ≡ from + (w + j) * n + i = omega arith in
      let b : from + w * n + u * n + (j * n + i) ≡ from + (w + u + j) * n + i = omega arith in
      rw (k, a, b) (ap₂ op (was (w + j) i (omega arith) l) (was (w + u + j) i (omega arith) l)) ∙ sym (same j i h))

-- Three runs make all of the lines: those with no line s before, those with both, those with no line t after.
module _ (op : ℕ → ℕ → ℕ) (from to n count s t : ℕ) (d d₁ d₂ d₃ : List ℕ) (apart : Apart from (count * n) to (count * n)) (fits : s + t ≤ count) where
  abbrev middle : ℕ
  middle = count * n - s * n - t * n

  abbrev m : ℕ
  m = count - s - t

  size : middle ≡ m * n
  size = let q : count ≡ s + m + t = omega arith in omega (arith, ap (λ (k : ℕ). k * n) q)

  near-self : (v : ℕ) → v < s → earlier s v ≡ v
  near-self v h = ⊎_elim (λ (e : (v < s) × (earlier s v ≡ v)). e.1) (λ (e : (s ≤ v) × (earlier s v ≡ v - s)). absurd (omega arith)) (earlier-is s v)

  near_before : (v j : ℕ) → v ≡ s + j → earlier s v ≡ j
  near_before v j q = ⊎_elim (λ (e : (v < s) × (earlier s v ≡ v)). absurd (omega arith)) (λ (e : (s ≤ v) × (earlier s v ≡ v - s)). omega arith) (earlier-is s v)

  far-after : (v j : ℕ) → v + t < count → j ≡ v + t → later t count v ≡ j
  far-after v j h q = ⊎_elim (λ (e : (v + t < count) × (later t count v ≡ v + t)). omega arith) (λ (e : (count ≤ v + t) × (later t count v ≡ v)). absurd (omega arith)) (later-is t count v)

  far-self : (v j : ℕ) → count ≤ v + t → j ≡ v → later t count v ≡ j
  far-self v j h q = ⊎_elim (λ (e : (v + t < count) × (later t count v ≡ v + t)). absurd (omega arith)) (λ (e : (count ≤ v + t) × (later t count v ≡ v)). omega arith) (later-is t count v)

  -- the two lines of a pair, by run
  first-pair : (j i : ℕ) → j < s → paired_lines op d from n count s t (0 + j) i ≡ op (byte_at d from n (0 + j) i) (byte_at d from n (0 + t + j) i)
  first-pair j i h = rw (near-self (0 + j) (omega arith), far-after (0 + j) (0 + t + j) (omega arith) (omega arith))

  middle-pair : (j i : ℕ) → j < m → paired_lines op d from n count s t (0 + s + j) i ≡ op (byte_at d from n (0 + j) i) (byte_at d from n (0 + (s + t) + j) i)
  middle-pair j i h = rw (near_before (0 + s + j) (0 + j) (omega arith), far-after (0 + s + j) (0 + (s + t) + j) (omega arith) (omega arith))

  last-pair : (j i : ℕ) → j < t → paired_lines op d from n count s t (0 + s + m + j) i ≡ op (byte_at d from n (m + j) i) (byte_at d from n (m + s + j) i)
  last-pair j i h = rw (near_before (0 + s + m + j) (m + j) (omega arith), far-self (0 + s + m + j) (m + s + j) (omega arith) (omega arith))

  module _ (f : ℕ → ℕ → ℕ) where
    first_more : ((j i : ℕ) → j < s → f (0 + j) i ≡ op (byte_at d from n (0 + j) i) (byte_at d from n (0 + t + j) i)) → Filled (folded_shifted op d from (t * n) to) to (to + s * n) d d₁
        → Lined f to n (0 + s) d d₁
    first_more same F = run_more op from to n count 0 s 0 t f d d d₁ apart (omega arith) (omega arith) same (lined-none _ _ _ _) to from (t * n) (s * n) (omega arith) (omega arith) refl refl F

    last_more : ((j i : ℕ) → j < t → f (0 + s + m + j) i ≡ op (byte_at d from n (m + j) i) (byte_at d from n (m + s + j) i)) → Lined f to n (0 + s + m) d d₂
        → Filled (folded_shifted op d₂ (from + middle) (s * n) (to + s * n + middle)) (to + s * n + middle) (to + s * n + middle + t * n) d₂ d₃ → Lined f to n count d d₃
    last_more same L F =
        let q : 0 + s + m + t ≡ count = omega arith in
        rw q at (run_more op from to n count (0 + s + m) t m s f d d₂ d₃ apart (omega arith) (omega arith) same L (to + s * n + middle) (from + middle) (s * n) (t * n)
        (omega (arith, size)) (omega (arith, size)) refl refl F)

  pub three-runs : Filled (folded_shifted op d from (t * n) to) to (to + s * n) d d₁
      → Filled (folded_shifted op d₁ from (s * n + t * n) (to + s * n)) (to + s * n) (to + s * n + middle) d₁ d₂
      → Filled (folded_shifted op d₂ (from + middle) (s * n) (to + s * n + middle)) (to + s * n + middle) (to + s * n + middle + t * n) d₂ d₃
      → Lined (paired_lines op d from n count s t) to n count d d₃
  three-runs F₁ F₂ F₃ =
      let L₂ = run_more op from to n count (0 + s) m 0 (s + t) (paired_lines op d from n count s t) d d₁ d₂ apart (omega arith) (omega arith) middle-pair
      (first_more (paired_lines op d from n count s t) first-pair F₁) (to + s * n) from (s * n + t * n) middle (omega arith) (omega arith) (omega arith) size F₂ in
      last_more (paired_lines op d from n count s t) last-pair L₂ F₃

  -- the same with the line itself, which is one of the two at the ends
  module _ (S : Semilattice op) where
    abbrev f : ℕ → ℕ → ℕ
    f = around_line op d from n count s t

    own_first : (j i : ℕ) → j < s → f (0 + j) i ≡ op (byte_at d from n (0 + j) i) (byte_at d from n (0 + t + j) i)
    own_first j i h = rw (first-pair j i h) (again-first op S _ _)

    own-last : (j i : ℕ) → j < t → f (0 + s + m + j) i ≡ op (byte_at d from n (m + j) i) (byte_at d from n (m + s + j) i)
    own-last j i h =
        let q : 0 + s + m + j ≡ m + s + j = omega arith in
        ap₂ op (last-pair j i h) (ap (λ (v : ℕ). byte_at d from n v i) q) ∙ twice op S _ _

    own-middle : Lined f to n (0 + s) d d₁
        → Filled (folded_three op d₁ from (from + s * n + t * n) (from + s * n) (to + s * n)) (to + s * n) (to + s * n + middle) d₁ d₂ → Lined f to n (0 + s + m) d d₂
    own-middle L F =
        let at : to + s * n ≡ to + (0 + s) * n = omega arith in
        lined-run _ _ to n (0 + s) m d d₁ d₂ L (rw (at, size) at F)
        (λ j i h l.
        let k : to + (0 + s) * n + (j * n + i) - (to + (0 + s) * n) ≡ j * n + i = omega arith in
        let a : from + (j * n + i) ≡ from + (0 + j) * n + i = omega arith in
        let b : from + s * n + t * n + (j * n + i) ≡ from + (0 + (s + t) + j) * n + i = omega arith in
        let c : from + s * n + (j * n + i) ≡ from + (0 + s + j) * n + i = omega arith in
        let was : (v : ℕ) → v < count → byte_at d₁ from n v i ≡ byte_at d from n v i = (λ v g. source _ from to n count (0 + s) v i d d₁ apart (omega arith) L g l) in
        rw (k, a, b, c) (ap₂ op (ap₂ op (was (0 + j) (omega arith)) (was (0 + (s + t) + j) (omega arith)) ∙ sym (middle-pair j i h)) (was (0 + s + j) (omega arith))))

    pub around-runs : Filled (folded_shifted op d from (t * n) to) to (to + s * n) d d₁
        → Filled (folded_three op d₁ from (from + s * n + t * n) (from + s * n) (to + s * n)) (to + s * n) (to + s * n + middle) d₁ d₂
        → Filled (folded_shifted op d₂ (from + middle) (s * n) (to + s * n + middle)) (to + s * n + middle) (to + s * n + middle + t * n) d₂ d₃
        → Lined f to n count d d₃
    around-runs F₁ F₂ F₃ = last_more f own-last (own-middle (first_more f own_first F₁) F₂) F₃
