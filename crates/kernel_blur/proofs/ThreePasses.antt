-- Three box passes, from the lines at a to those at b and back, are a blur's passes. Assumes nothing.
use mathlib.Core.Path.{◌≡◌, sym, ap, ◌∙◌}
use mathlib.Core.List.{List}
use mathlib.Core.Logic.{⊎_elim}
use Prim.Native.Nat.{ℕ, ◌-◌, ◌/◌, ◌%◌, ◌≤◌, ◌<◌}
use native.Mathlib.Omega.{arith}
use borrow.Author.Tests.{le-ltb, eq-eqb, ne_eqb}
use Rattle.window.specs.Store.{Lined}
use Rattle.window.specs.Window.{column, mean, box, passes, passes_of}
use Rattle.window.proofs.Store.{lt-or-le, lined-outside}
use Rattle.kernel_blur.specs.Blurred.{Blurred}
use Rattle.window.proofs.BandedPasses.{within_in}
use Rattle.kernel_sums.proofs.LinesApart.{lined-column}

-- the passes by the parity of d, as the code has it
passes-boxes : (count d e short : ℕ) (f : ℕ → ℕ) → 2 ≤ d → e ≡ d / 2 → short ≡ e - (1 - d % 2) → passes count d f ≡ box count e e (box count short e (box count e short f))
unfolding passes_of
passes-boxes count d e short f h is less = ⊎_elim
    (λ even. let z : d % 2 ≡ 0 = omega arith in
    let q : short ≡ d / 2 - 1 = omega arith in
    simp (le-ltb d 2 h, ne_eqb (d % 2) 1 (λ o. omega arith), is, q))
    (λ odd. let z : d % 2 ≡ 1 = omega arith in
    let q : short ≡ d / 2 = omega arith in
    simp (le-ltb d 2 h, eq-eqb (d % 2) 1 z, is, q))
    (lt-or-le (d % 2) 1)

-- what a pass stores is a box of its columns
stored-box : (back ahead from to n count : ℕ) (d d' : List ℕ) → Lined (λ v i. mean back ahead (column d from n count i) v) to n count d d'
    → (i : ℕ) → i < n → column d' to n count i ≡ box count back ahead (column d from n count i)
unfolding box
stored-box back ahead from to n count d d' L i h = lined-column _ to n count d d' L i h

pub blurred : (d a b n count e short : ℕ) (s s₁ s₂ s₃ : List ℕ) → 2 ≤ d → e ≡ d / 2 → short ≡ e - (1 - d % 2)
    → Lined (λ v i. mean e short (column s a n count i) v) b n count s s₁
    → Lined (λ v i. mean short e (column s₁ b n count i) v) a n count s₁ s₂
    → Lined (λ v i. mean e e (column s₂ a n count i) v) b n count s₂ s₃
    → Blurred d a b n count s s₃
unfolding box
blurred d a b n count e short s s₁ s₂ s₃ h is less L M N = record {
  inside = λ v i k l.
      let one = stored-box e short a b n count s s₁ L i l in
      let two = stored-box short e b a n count s₁ s₂ M i l in
      N.inside v i k l ∙ sym (within_in count (mean e e (column s₂ a n count i)) v k)
      ∙ ap (λ (f : ℕ → ℕ). box count e e f v) (two ∙ ap (box count short e) one) ∙ sym (ap (λ (f : ℕ → ℕ). f v) (passes-boxes count d e short (column s a n count i) h is less));
  outside = λ j p q. lined-outside _ b n count s₂ s₃ j N q ∙ lined-outside _ a n count s₁ s₂ j M p ∙ lined-outside _ b n count s s₁ j L q;
  long = N.long ∙ M.long ∙ L.long;
}
