-- Redraw rectangles as the code holds them: the changed one, and an array with one for each layer; and what one more step adds to it. Assumes nothing.
use Rattle.std.specs.Prelude.{ℕ, ◌+◌, ◌≤◌, ◌≡◌, List, get_or, set}
use Rattle.filter.specs.declared.Input.{Input}
use Rattle.filter.specs.declared.Input.TheVariants.{Source, SourceAlpha, Layer}
use Rattle.filter.specs.declared.Rect.{Rect}
use Rattle.filter.specs.Rect.{empty, area}
use Rattle.filter.specs.Accepted.{Within}
use Rattle.filter.specs.Limits.{most_pixels}
use Rattle.damage.specs.declared.SoFar.{SoFar}

-- the rectangle of an input
unfoldable pub rect_of : Rect → List Rect → Input → Rect
rect_of r zs Source = r
rect_of r zs SourceAlpha = r
rect_of r zs (Layer k) = get_or zs k empty

-- each of them ends on a canvas of w by h
pub record AllWithin (w h : ℕ) (r : Rect) (zs : List Rect) : Type 0 where
  pub each : (i : Input) → Within w h (rect_of r zs i)

-- what the steps so far leave, with the rectangle of step n: "the count is the sum of the areas"
pub record RectAdded (n : ℕ) (rect : Rect) (before now : SoFar) : Type 0 where
  pub rects : now.rects ≡ set before.rects n rect
  pub count : now.count ≡ before.count + area rect
  pub small : area rect ≤ most_pixels
  pub spaces : now.spaces ≡ before.spaces
