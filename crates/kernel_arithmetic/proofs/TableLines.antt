-- A table of 256 lines of 256 entries, filled line by line. Assumes nothing.
use mathlib.Core.Path.{◌≡◌, ◌∙◌, ap}
use mathlib.Core.List.{List}
use mathlib.Core.Logic.{⊎_elim}
use Prim.Native.Nat.{ℕ, ◌+◌, ◌-◌, ◌*◌, ◌<◌}
use native.Mathlib.Omega.{arith}
use lib.ListN.{get_or}
use Rattle.window.specs.Store.{Filled}
use Rattle.window.proofs.Store.{lt-or-le}

-- one line more
pub table-line-more : (f : ℕ → ℕ → ℕ) (g : ℕ → ℕ) (i : ℕ) (d d' : List ℕ)
    → ((x y : ℕ) → x < i → y < 256 → get_or d (256 * x + y) 0 ≡ f x y)
    → ((y : ℕ) → g y ≡ f i y)
    → Filled (λ j. g (j - 256 * i)) (256 * i) (256 * i + 256) d d'
    → (x y : ℕ) → x < i + 1 → y < 256 → get_or d' (256 * x + y) 0 ≡ f x y
table-line-more f g i d d' old e F x y lx ly = ⊎_elim
    (λ h. F.before (256 * x + y) (omega arith) ∙ old x y h ly)
    (λ h.
    let q : x ≡ i = omega arith in
    let at : 256 * i + y - 256 * i ≡ y = omega arith in
    rw q (F.inside (256 * i + y) (omega arith) (omega arith) ∙ ap g at ∙ e y))
    (lt-or-le x i)
