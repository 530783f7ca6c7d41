-- Laws of patches. Assumes nothing.
use mathlib.Core.Path.{◌≡◌, sym, ◌∙◌, fun_ext}
use Prim.Native.Nat.{ℕ, ◌≤◌}
use native.Mathlib.Omega.{arith}
use Rattle.filter.specs.declared.Rect.{Rect}
use Rattle.filter.specs.Rect.{In, canvas_of, meet}
use Rattle.filter.specs.Picture.{Picture, patch}
use Rattle.filter.proofs.PlacesInRects.{in?}
use Rattle.filter.proofs.Patches.{patch-in, patch-out}

-- a cut outside the rectangle is not seen
pub patch-cut : (r f : Rect) (new under old : Picture) → ((x y : ℕ) → In r x y → In f x y) → patch r new old ≡ patch r (patch f new under) old
patch-cut r f new under old k = fun_ext λ x. fun_ext λ y. go x y (in? r x y)
  where
    go : (x y : ℕ) → Dec (In r x y) → patch r new old x y ≡ patch r (patch f new under) old x y
    go x y (yes i) = patch-in _ _ _ i ∙ sym (patch-in _ _ _ (k x y i)) ∙ sym (patch-in r (patch f new under) old i)
    go x y (no i) = patch-out _ _ _ i ∙ sym (patch-out r (patch f new under) old i)

-- a rectangle that ends on the canvas loses nothing by the canvas' cut
pub on-canvas : (w h : ℕ) (r : Rect) → r.right ≤ w → r.bottom ≤ h → (x y : ℕ) → In r x y → In (meet (canvas_of w h) r) x y
on-canvas w h r a b x y i = record { left = omega arith; right = omega arith; top = omega arith; bottom = omega arith }
