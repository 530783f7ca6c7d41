-- A growth of lines, or two at once, makes windows of a longer reach. Assumes nothing.
use mathlib.Core.Path.{◌≡◌, ap₂, ◌∙◌}
use mathlib.Core.List.{List}
use Prim.Native.Nat.{ℕ, ◌+◌, ◌-◌, ◌≤◌, ◌<◌}
use native.Mathlib.Omega.{arith}
use Rattle.window.specs.Store.{Lined}
use Rattle.window.proofs.Store.{lined-outside}
use Rattle.kernel_fold.specs.declared.Extreme.{Extreme}
use Rattle.kernel_fold.specs.Operation.{operation}
use Rattle.kernel_fold.specs.Lines.{earlier, later, paired_lines, around_line, paired_twice}
use Rattle.kernel_fold.proofs.Semilattices.{lattice}
use Rattle.kernel_fold.proofs.Neighbours.{earlier-in, later-in}
use Rattle.kernel_morph.specs.Extremes.{neutral}
use Rattle.kernel_morph.specs.Growth.{cut, HoldsWindows, Widened, Sides, Stretch}
use Rattle.kernel_morph.proofs.CutWindows.{cut-grow, cut_around}

-- two windows that reach p and q make one that reaches p' and q'
grow-cut : (op : Extreme) (p q back ahead p' q' count : ℕ) (f : ℕ → ℕ) (v : ℕ) → Stretch p q back ahead p' q' → v < count
    → operation op (cut (operation op) (neutral op) p q count f (earlier (p' - p) v)) (cut (operation op) (neutral op) p q count f (later (q' - q) count v)) ≡ cut (operation op) (neutral op) p' q' count f v
grow-cut op p q back ahead p' q' count f v S h =
    let a : p + (p' - p) ≡ p' = omega (arith, S.sides.from_back) in
    let b : q + (q' - q) ≡ q' = omega (arith, S.sides.from_ahead) in
    let near : p' - p ≤ p + 1 = omega (arith, S.sides.near) in
    let far : q' - q ≤ q + 1 = omega (arith, S.sides.far) in
    let both : p' - p + (q' - q) ≤ p + q + 1 = omega (arith, S.both, a, b) in
    cut-grow (operation op) (neutral op) (lattice op) f count p q (p' - p) (q' - q) v h near far both ∙ rw (a, b)

module _ (op : Extreme) (p q back ahead p₁ q₁ from n count : ℕ) (d : List ℕ) (f : ℕ → ℕ → ℕ) (S : Stretch p q back ahead p₁ q₁) (H : HoldsWindows op f p q from n count d) where
  pub paired-holds : (v i : ℕ) → v < count → i < n → paired_lines (operation op) d from n count (p₁ - p) (q₁ - q) v i ≡ cut (operation op) (neutral op) p₁ q₁ count (λ w. f w i) v
  paired-holds v i h l =
      ap₂ (operation op) (H (earlier (p₁ - p) v) i (earlier-in (p₁ - p) count v h) l) (H (later (q₁ - q) count v) i (later-in (q₁ - q) count v h) l)
      ∙ grow-cut op p q back ahead p₁ q₁ count (λ w. f w i) v S h

  pub twice_holds : (p₂ q₂ : ℕ) → Stretch p₁ q₁ back ahead p₂ q₂ → (v i : ℕ) → v < count → i < n
      → paired_twice (operation op) d from n count (p₁ - p) (q₁ - q) (p₂ - p₁) (q₂ - q₁) v i ≡ cut (operation op) (neutral op) p₂ q₂ count (λ w. f w i) v
  twice_holds p₂ q₂ T v i h l =
      ap₂ (operation op) (paired-holds (earlier (p₂ - p₁) v) i (earlier-in (p₂ - p₁) count v h) l) (paired-holds (later (q₂ - q₁) count v) i (later-in (q₂ - q₁) count v h) l)
      ∙ grow-cut op p₁ q₁ back ahead p₂ q₂ count (λ w. f w i) v T h

pub widened_once : (op : Extreme) (p q back ahead p₁ q₁ from to n count : ℕ) (d d' : List ℕ) → Stretch p q back ahead p₁ q₁
    → Lined (paired_lines (operation op) d from n count (p₁ - p) (q₁ - q)) to n count d d' → Widened op p q p₁ q₁ from to n count d d'
widened_once op p q back ahead p₁ q₁ from to n count d d' S L = record {
  holds = λ f H v i h l. L.inside v i h l ∙ paired-holds op p q back ahead p₁ q₁ from n count d f S H v i h l;
  off = λ j o. lined-outside _ _ _ _ _ _ j L o;
  long = L.long;
}

pub widened_twice : (op : Extreme) (p q back ahead p₁ q₁ p₂ q₂ from to n count : ℕ) (d d' : List ℕ) → Stretch p q back ahead p₁ q₁ → Stretch p₁ q₁ back ahead p₂ q₂
    → Lined (paired_twice (operation op) d from n count (p₁ - p) (q₁ - q) (p₂ - p₁) (q₂ - q₁)) to n count d d' → Widened op p q p₂ q₂ from to n count d d'
widened_twice op p q back ahead p₁ q₁ p₂ q₂ from to n count d d' S T L = record {
  holds = λ f H v i h l. L.inside v i h l ∙ twice_holds op p q back ahead p₁ q₁ from n count d f S H p₂ q₂ T v i h l;
  off = λ j o. lined-outside _ _ _ _ _ _ j L o;
  long = L.long;
}

-- three windows that reach p and q, one of them the line's own
pub widened-around : (op : Extreme) (p q back ahead p₁ q₁ from to n count : ℕ) (d d' : List ℕ) → Sides p q back ahead p₁ q₁
    → Lined (around_line (operation op) d from n count (p₁ - p) (q₁ - q)) to n count d d' → Widened op p q p₁ q₁ from to n count d d'
widened-around op p q back ahead p₁ q₁ from to n count d d' S L =
    let a : p + (p₁ - p) ≡ p₁ = omega (arith, S.from_back) in
    let b : q + (q₁ - q) ≡ q₁ = omega (arith, S.from_ahead) in
    let near : p₁ - p ≤ p + 1 = omega (arith, S.near) in
    let far : q₁ - q ≤ q + 1 = omega (arith, S.far) in record {
      holds = λ f H v i h l. L.inside v i h l
          ∙ ap₂ (operation op)
          (ap₂ (operation op) (H (earlier (p₁ - p) v) i (earlier-in (p₁ - p) count v h) l) (H (later (q₁ - q) count v) i (later-in (q₁ - q) count v h) l)) (H v i h l)
          ∙ cut_around (operation op) (neutral op) (lattice op) (λ w. f w i) count p q (p₁ - p) (q₁ - q) v h near far
          ∙ rw (a, b);
      off = λ j o. lined-outside _ _ _ _ _ _ j L o;
      long = L.long;
    }
