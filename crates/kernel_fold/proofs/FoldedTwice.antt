-- Two growths at once: each line from four. Assumes nothing.
use mathlib.Core.Path.{◌≡◌, ap₂, ◌∙◌}
use mathlib.Core.List.{List, [], ◌∷◌}
use Prim.Native.Nat.{ℕ, ◌+◌, ◌-◌, ◌*◌, ◌<◌}
use native.Mathlib.Omega.{arith}
use lib.ListN.{get_or}
use Rattle.window.specs.Store.{Filled, Lined, byte_at}
use Rattle.window.specs.Ranges.{Apart}
use Rattle.kernel_fold.specs.Operation.{together}
use Rattle.kernel_fold.proofs.Semilattices.{Semilattice}
use Rattle.kernel_fold.specs.Lines.{earlier, later, paired_lines, paired_twice}
use Rattle.kernel_fold.proofs.Neighbours.{earlier-in, later-in}
use Rattle.kernel_fold.proofs.LineRuns.{source, lined-run}

-- the bytes at an index of four ranges, put together in pairs
abbrev folded_four : (ℕ → ℕ → ℕ) → List ℕ → ℕ → ℕ → ℕ → ℕ → ℕ → ℕ → ℕ
folded_four op d w x y z to j = op (op (get_or d (w + (j - to)) 0) (get_or d (x + (j - to)) 0)) (op (get_or d (y + (j - to)) 0) (get_or d (z + (j - to)) 0))

-- the four lines by the places where they start
pub line-twice : (op : ℕ → ℕ → ℕ) (S : Semilattice op) (d d' : List ℕ) (from to n count v s t s2 t2 y z k l m o a b c e at : ℕ)
    → y ≡ earlier s2 v → z ≡ later t2 count v → k ≡ earlier s y → l ≡ later t count y → m ≡ earlier s z → o ≡ later t count z
    → a ≡ from + k * n → b ≡ from + l * n → c ≡ from + m * n → e ≡ from + o * n → at ≡ to + v * n
    → Filled (λ j. together op d a (b ∷ c ∷ e ∷ []) (j - at)) at (at + n) d d' → Filled (λ j. paired_twice op d from n count s t s2 t2 v (j - (to + v * n))) (to + v * n) (to + v * n + n) d d'
line-twice op S d d' from to n count v s t s2 t2 y z k l m o a b c e at ey ez ek el em eo ea eb ec ee eat F =
    let fa : a ≡ from + earlier s (earlier s2 v) * n = cc in
    let fb : b ≡ from + later t count (earlier s2 v) * n = cc in
    let fc : c ≡ from + earlier s (later t2 count v) * n = cc in
    let fe : e ≡ from + later t count (later t2 count v) * n = cc in
    let G : Filled (folded_four op d a b c e at) at (at + n) d d' = record {
      inside = λ j lo hi. F.inside j lo hi ∙ S.assoc _ _ _;
      before = F.before;
      after = F.after;
      long = F.long;
    } in
    rw (fa, fb, fc, fe, eat) at G

-- one line more
module _ (op : ℕ → ℕ → ℕ) (from to n count s t s2 t2 v : ℕ) (d d₁ d₂ : List ℕ) (apart : Apart from (count * n) to (count * n)) (among : v < count)
    (L : Lined (paired_twice op d from n count s t s2 t2) to n v d d₁) where
  was : (w i : ℕ) → w < count → i < n → byte_at d₁ from n w i ≡ byte_at d from n w i
  was w i = source _ from to n count v w i d d₁ apart (omega arith) L

  pair-was : (w i : ℕ) → w < count → i < n → paired_lines op d₁ from n count s t w i ≡ paired_lines op d from n count s t w i
  pair-was w i h l = ap₂ op (was (earlier s w) i (earlier-in s count w h) l) (was (later t count w) i (later-in t count w h) l)

  pub twice-more : Filled (λ j. paired_twice op d₁ from n count s t s2 t2 v (j - (to + v * n))) (to + v * n) (to + v * n + n) d₁ d₂ → Lined (paired_twice op d from n count s t s2 t2) to n (v + 1) d d₂
  twice-more F =
      let one : to + v * n + n ≡ to + v * n + 1 * n = omega arith in
      lined-run _ (λ j. paired_twice op d₁ from n count s t s2 t2 v (j - (to + v * n))) to n v 1 d d₁ d₂ L (rw one at F)
      (λ j i h l.
      let z : v + j ≡ v = omega arith in
      let k : to + v * n + (j * n + i) - (to + v * n) ≡ i = let q : j ≡ 0 = omega arith in rw q (omega arith) in
      rw (z, k) (ap₂ op (pair-was (earlier s2 v) i (earlier-in s2 count v among) l) (pair-was (later t2 count v) i (later-in t2 count v among) l)))
