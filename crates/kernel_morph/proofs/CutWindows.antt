-- Windows cut at the ends of the lines: two of them that overlap make a longer one, "cut" as well. Assumes nothing.
use mathlib.Core.Path.{◌≡◌, ap, ap₂, ◌∙◌}
use mathlib.Core.Logic.{◌⊎◌, inl, inr, ⊎_elim}
use Prim.Native.Nat.{ℕ, ◌+◌, ◌-◌, ◌≤◌, ◌<◌, min, max}
use native.Mathlib.Omega.{arith}
use Rattle.window.specs.Window.{fold}
use Rattle.window.proofs.BandedPasses.{fold_same}
use Rattle.window.proofs.Store.{lt-or-le}
use Rattle.kernel_fold.specs.Lines.{earlier, later}
use Rattle.kernel_fold.proofs.Semilattices.{Semilattice, between}
use Rattle.kernel_fold.proofs.Neighbours.{earlier-is, later-is}
use Rattle.kernel_morph.specs.Growth.{cut}
use Rattle.kernel_morph.proofs.OverlappingFolds.{fold-join}

module _ (op : ℕ → ℕ → ℕ) (e : ℕ) (S : Semilattice op) (f : ℕ → ℕ) where
  -- the places lo up to hi
  abbrev span : ℕ → ℕ → ℕ
  span lo hi = fold op e (hi - lo) (λ t. f (lo + t))

  span-join : (lo lo' hi hi' : ℕ) → lo ≤ lo' → lo' ≤ hi → hi ≤ hi' → op (span lo hi) (span lo' hi') ≡ span lo hi'
  span-join lo lo' hi hi' a b c =
      let q : max (hi - lo) (lo' - lo + (hi' - lo')) ≡ hi' - lo = omega arith in
      ap (op (span lo hi)) (fold_same op e (hi' - lo') (λ t. f (lo' + t)) (λ t. f (lo + (lo' - lo + t))) (λ t l. ap f (omega arith)))
      ∙ rw q at (fold-join op e S (hi - lo) (lo' - lo) (hi' - lo') (λ t. f (lo + t)) (omega arith))

  module _ (count p q s t v : ℕ) (among : v < count) (hs : s ≤ p + 1) (ht : t ≤ q + 1) (both : s + t ≤ p + q + 1) where
    grow-at : (y z : ℕ) → ((v < s) × (y ≡ v)) ⊎ ((s ≤ v) × (y ≡ v - s)) → ((v + t < count) × (z ≡ v + t)) ⊎ ((count ≤ v + t) × (z ≡ v))
        → op (cut op e p q count f y) (cut op e p q count f z) ≡ cut op e (p + s) (q + t) count f v
    unfolding cut
    grow-at y z hy hz =
        let bounds : (y - p ≡ v - (p + s)) × (y ≤ v) × (v ≤ y + s) × ((v < s) ⊎ (v ≡ y + s)) = ⊎_elim
        (λ (h : (v < s) × (y ≡ v)). (omega arith, omega arith, omega arith, inl h.0))
        (λ (h : (s ≤ v) × (y ≡ v - s)). (omega arith, omega arith, omega arith, inr (omega arith))) hy in
        let ends : (min count (z + q + 1) ≡ min count (v + (q + t) + 1)) × (v ≤ z) × (z ≤ v + t) × (z < count) = ⊎_elim
        (λ (h : (v + t < count) × (z ≡ v + t)). (omega arith, omega arith, omega arith, omega arith))
        (λ (h : (count ≤ v + t) × (z ≡ v)). (omega arith, omega arith, omega arith, omega arith)) hz in
        let touch : z - p ≤ min count (y + q + 1) = ⊎_elim (λ (h : v < s). omega arith) (λ (h : v ≡ y + s). omega arith) bounds.3 in
        rw (← bounds.0, ← ends.0) (span-join (y - p) (z - p) (min count (y + q + 1)) (min count (z + q + 1)) (omega arith) touch (omega arith))

    -- the window of v that is longer by s and t, from the windows of two other lines
    pub cut-grow : op (cut op e p q count f (earlier s v)) (cut op e p q count f (later t count v)) ≡ cut op e (p + s) (q + t) count f v
    cut-grow = grow-at (earlier s v) (later t count v) (earlier-is s v) (later-is t count v)

  -- the same where the window of v itself fills the gap between the two
  module _ (count p q s t v : ℕ) (among : v < count) (hs : s ≤ p + 1) (ht : t ≤ q + 1) where
    self-before : earlier 0 v ≡ v
    self-before = ⊎_elim (λ (h : (v < 0) × (earlier 0 v ≡ v)). h.1) (λ (h : (0 ≤ v) × (earlier 0 v ≡ v - 0)). omega (arith, h.1)) (earlier-is 0 v)

    self-after : later 0 count v ≡ v
    self-after = ⊎_elim (λ (h : (v + 0 < count) × (later 0 count v ≡ v + 0)). omega (arith, h.1)) (λ (h : (count ≤ v + 0) × (later 0 count v ≡ v)). h.1) (later-is 0 count v)

    sides-join : op (cut op e (p + s) q count f v) (cut op e p (q + t) count f v) ≡ cut op e (p + s) (q + t) count f v
    unfolding cut
    sides-join = span-join (v - (p + s)) (v - p) (min count (v + q + 1)) (min count (v + (q + t) + 1)) (omega arith) (omega arith) (omega arith)

    pub cut_around : op (op (cut op e p q count f (earlier s v)) (cut op e p q count f (later t count v))) (cut op e p q count f v) ≡ cut op e (p + s) (q + t) count f v
    cut_around =
        let left : op (cut op e p q count f (earlier s v)) (cut op e p q count f v) ≡ cut op e (p + s) q count f v =
        let z : q + 0 ≡ q = omega arith in
        rw (self-after, z) at (cut-grow count p q s 0 v among hs (omega arith) (omega arith)) in
        let right : op (cut op e p q count f v) (cut op e p q count f (later t count v)) ≡ cut op e p (q + t) count f v =
        let z : p + 0 ≡ p = omega arith in
        rw (self-before, z) at (cut-grow count p q 0 t v among (omega arith) ht (omega arith)) in
        between op S (cut op e p q count f (earlier s v)) (cut op e p q count f v) (cut op e p q count f (later t count v))
        ∙ ap₂ op left right ∙ sides-join

-- a window of one line
pub cut-one : (op : ℕ → ℕ → ℕ) (e count : ℕ) (f : ℕ → ℕ) (v : ℕ) → v < count → op e (f v) ≡ f v → cut op e 0 0 count f v ≡ f v
unfolding cut fold
cut-one op e count f v l h =
    let q : min count (v + 0 + 1) - (v - 0) ≡ 1 = omega arith in
    let z : v - 0 + 0 ≡ v = omega arith in
    rw q (rw z h)

-- no window needs to be longer than the lines
ahead-limit : (q count v : ℕ) → v < count → min count (v + min q (count - 1) + 1) ≡ min count (v + q + 1)
ahead-limit q count v l = ⊎_elim
    (λ h. let e : min q (count - 1) ≡ q = omega arith in rw e)
    (λ h.
    let e : min q (count - 1) ≡ count - 1 = omega arith in
    let a : min count (v + (count - 1) + 1) ≡ count = omega arith in
    let b : min count (v + q + 1) ≡ count = omega arith in
    rw (e, a, b))
    (lt-or-le q count)

pub cut-limit : (op : ℕ → ℕ → ℕ) (e p q count : ℕ) (f : ℕ → ℕ) (v : ℕ) → v < count → cut op e (min p (count - 1)) (min q (count - 1)) count f v ≡ cut op e p q count f v
unfolding cut
cut-limit op e p q count f v l =
    let a : v - min p (count - 1) ≡ v - p = omega arith in
    rw (a, ahead-limit q count v l)
