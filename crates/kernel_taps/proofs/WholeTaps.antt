-- Taps that are whole multiples of a unit, one more at a time; the divisor as such a multiple. Assumes nothing.
use Prim.Native.Nat.{ℕ, ◌+◌, ◌-◌, ◌*◌, ◌≤◌, ◌<◌}
use mathlib.Core.Path.{◌≡◌, refl}
use mathlib.Core.Bool.{Bool, true, false}
use mathlib.Core.List.{List}
use mathlib.Core.Logic.{⊎_elim, ◌≢◌}
use native.Mathlib.Omega.{arith}
use lib.Dec.{ltb}
use lib.ListN.{length, get_or, set}
use lib.Seq.{get_or-set_same, get_or-set_other}
use borrow.Author.Tests.{ltb-true, ltb-false}
use Rattle.window.proofs.Store.{lt-or-le}
use Rattle.number.specs.declared.Fixed.{Fixed}
use Rattle.kernel_taps.specs.Taps.{exchanged, Scaled, Tap}

pub never : false ≡ true → ⊥
never e = let z : ◌≡◌ {A = ℕ} 0 1 = cc in omega arith

-- the larger of the two comes first
pub far-le : (u d : Fixed) → u ≡ exchanged (ltb d.above d.below) d → u.below ≤ u.above
far-le u d e = rw e (go (ltb d.above d.below) refl)
  where
    go : (t : Bool) → ltb d.above d.below ≡ t → (exchanged t d).below ≤ (exchanged t d).above
    go true h = omega (arith, ltb-true d.above d.below h)
    go false h = omega (arith, ltb-false d.above d.below h)

pub scaled-by : (u d : Fixed) (negative : Bool) (unit size : ℕ) → u ≡ exchanged negative d → u.below ≤ u.above → u.above - u.below ≡ unit * size
    → Scaled d negative unit size
scaled-by u d negative unit size e l h = record {
  same = let s : u.above ≡ u.below + unit * size = omega arith in rw e at s;
}

-- one more weight is stored
pub taps-more : (unit t x : ℕ) (u : ℕ → Fixed) (w : List ℕ) → t < length w → Tap unit x (u t)
    → ((s : ℕ) → s < t → Tap unit (get_or w s 0) (u s)) → (s : ℕ) → s < t + 1 → Tap unit (get_or (set w t x) s 0) (u s)
taps-more unit t x u w h tap each s l = ⊎_elim
    (λ lt. let ne : s ≢ t = omega arith in rw (get_or-set_other w t s x 0 ne) (each s lt))
    (λ ge. let e : s ≡ t = omega arith in rw (e, get_or-set_same w t x 0 h) tap)
    (lt-or-le s t)
