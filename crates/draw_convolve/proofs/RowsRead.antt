-- Which rows a convolution reads. Assumes nothing.
use Prim.Native.Nat.{ℕ, ◌+◌, ◌-◌, ◌≤◌, ◌<◌}
use mathlib.Core.Path.{◌≡◌, refl}
use mathlib.Core.Bool.{Bool, true, false, cond}
use native.Mathlib.Omega.{arith}
use lib.Dec.{leb}
use borrow.Author.Tests.{leb-true}
use Rattle.pixel.specs.declared.Edge.TheVariants.{None}
use Rattle.pixel.specs.declared.Convolution.{Convolution}
use Rattle.draw_window.specs.LookedAt.{LookedAt}
use Rattle.draw_convolve.specs.Staged.{row_read, RowsRead}

-- without an edge that is extended: those that the rows of the results look at
pub rows-looked : (h : ℕ) (k : Convolution) (top bottom lo hi : ℕ) → k.edge ≡ None → k.row < k.rows → top < bottom → bottom ≤ h
    → LookedAt h top bottom k.row (k.rows - 1 - k.row) lo hi → RowsRead h k top bottom lo hi
rows-looked h k top bottom lo hi e r l m L = record {
  order = omega (arith, L.low, L.high);
  high = omega (arith, L.high);
  seen = seen;
}
  where
    go : (y i : ℕ) (b : Bool) → leb k.row (y + i) ≡ b → top ≤ y → y < bottom → i < k.rows → cond b (y + i - k.row) h < h
        → (lo ≤ cond b (y + i - k.row) h) × (cond b (y + i - k.row) h < hi)
    go y i true t a b c d = (omega (arith, L.low), omega (arith, L.high, leb-true k.row (y + i) t))
    go y i false t a b c d = absurd (omega arith)

    seen : (y i : ℕ) → top ≤ y → y < bottom → i < k.rows → row_read h k y i < h → (lo ≤ row_read h k y i) × (row_read h k y i < hi)
    seen y i a b c d = rw e (go y i (leb k.row (y + i)) refl a b c (rw e at d))
