-- The window of the definition, which reads 0 outside the lines, and the window cut at their ends. Assumes nothing.
use mathlib.Core.Path.{◌≡◌, ap, ◌∙◌}
use mathlib.Core.Logic.{⊎_elim}
use Prim.Native.Nat.{ℕ, ◌+◌, ◌-◌, ◌≤◌, ◌<◌, min, max}
use native.Mathlib.Omega.{arith}
use borrow.Author.Tests.{lt-ltb, le-ltb, le-leb, lt-leb}
use Rattle.window.specs.Window.{behind, within, least, largest}
use Rattle.window.proofs.BandedPasses.{fold_same}
use Rattle.window.proofs.Store.{lt-or-le}
use Rattle.kernel_fold.specs.declared.Extreme.{Extreme}
use Rattle.kernel_fold.specs.declared.Extreme.TheVariants.{Least, Largest}
use Rattle.kernel_fold.specs.Operation.{operation}
use Rattle.kernel_fold.proofs.Semilattices.{min-lattice, max-lattice}
use Rattle.kernel_morph.specs.Extremes.{neutral, extreme}
use Rattle.kernel_morph.specs.Growth.{cut, edged}
use Rattle.kernel_morph.proofs.OverlappingFolds.{fold-absorb, fold-trim}

-- every byte replaces the start
pub start-byte : (op : Extreme) (x : ℕ) → x < 256 → operation op (neutral op) x ≡ x
unfolding operation neutral
start-byte Least x h = omega arith
start-byte Largest x h = omega arith

module _ (back ahead count : ℕ) (f : ℕ → ℕ) (v : ℕ) (among : v < count) where
  -- what the window reads
  abbrev read : ℕ → ℕ
  read t = behind back (within count f) (v + t)

  read-in : (t : ℕ) → back ≤ v + t → v + t - back < count → read t ≡ f (v + t - back)
  unfolding behind within
  read-in t h l = simp (le-leb back (v + t) h, lt-ltb (v + t - back) count l)

  read-before : (t : ℕ) → v + t < back → read t ≡ 0
  unfolding behind
  read-before t h = simp (lt-leb back (v + t) h)

  read_past : (t : ℕ) → count + back ≤ v + t → read t ≡ 0
  unfolding behind within
  read_past t h =
      let a : back ≤ v + t = omega arith in
      let b : count ≤ v + t - back = omega arith in
      simp (le-leb back (v + t) a, le-ltb (v + t - back) count b)

  -- a window that reads a 0 has the least 0
  least-none : (t : ℕ) → t ≤ back + ahead → read t ≡ 0 → least back ahead (within count f) v ≡ 0
  least-none t h z =
      let l : t < back + ahead + 1 = omega arith in
      omega (arith, rw z at (fold-absorb min 255 min-lattice (back + ahead + 1) t read l))

  least-whole : back ≤ v → v + ahead < count → least back ahead (within count f) v ≡ cut min 255 back ahead count f v
  unfolding cut
  least-whole h l =
      let q : min count (v + ahead + 1) - (v - back) ≡ back + ahead + 1 = omega arith in
      rw q (fold_same min 255 (back + ahead + 1) read (λ t. f (v - back + t)) (λ t g. read-in t (omega arith) (omega arith) ∙ ap f (omega arith)))

  -- 0 never exceeds a byte
  largest-cut : largest back ahead (within count f) v ≡ cut max 0 back ahead count f v
  unfolding cut
  largest-cut =
      let m = min count (v + ahead + 1) - (v - back) in
      let r = v + ahead + 1 - min count (v + ahead + 1) in
      let q : back + ahead + 1 ≡ back - v + m + r = omega arith in
      rw q (fold-trim max 0 max-lattice (back - v) m r read (λ t h. read-before t (omega arith)) (λ t h. read_past (back - v + m + t) (omega arith))
      ∙ fold_same max 0 m (λ t. read (back - v + t)) (λ t. f (v - back + t)) (λ t h. read-in (back - v + t) (omega arith) (omega arith) ∙ ap f (omega arith)))

-- the definition's window is the cut one, with 0 for the least where the window leaves the lines
pub extreme-cut : (op : Extreme) (back ahead count : ℕ) (f : ℕ → ℕ) (v : ℕ) → v < count
    → extreme op back ahead (within count f) v ≡ edged op back ahead count v (cut (operation op) (neutral op) back ahead count f v)
unfolding operation neutral edged
extreme-cut Largest back ahead count f v l = largest-cut back ahead count f v l
extreme-cut Least back ahead count f v l = ⊎_elim
    (λ h. least-none back ahead count f v l 0 (omega arith) (read-before back ahead count f v l 0 (omega arith)) ∙ simp (lt-leb back v h))
    (λ h. ⊎_elim
    (λ g. least-whole back ahead count f v l h g ∙ simp (le-leb back v h, lt-ltb (v + ahead) count g))
    (λ g. least-none back ahead count f v l (back + ahead) (omega arith) (read_past back ahead count f v l (back + ahead) (omega arith)) ∙ simp (le-leb back v h, le-ltb (v + ahead) count g))
    (lt-or-le (v + ahead) count))
    (lt-or-le v back)
