-- A strip of an input, worked along its rows and then down its columns. Only the code needs these definitions: no promise to a caller cites
-- them. Assumes nothing.
use Rattle.std.specs.Prelude.{ℕ, ◌-◌, ◌*◌, ◌≤◌, ◌<◌, List}
use Rattle.filter.specs.declared.Input.{Input}
use Rattle.filter.specs.declared.Rect.{Rect}
use Rattle.buffers.specs.declared.Context.{Context}
use Rattle.buffers.specs.Shown.{shown}
use Rattle.buffers.specs.Strip.{Strip}
use Rattle.draw_window.specs.LineRules.{Rule, across_of, Worked}

-- some columns and some rows of a canvas of w by h
pub record StripOn (w h : ℕ) (r : Rect) : Type 0 where
  pub some_wide : r.left < r.right
  pub wide : r.right ≤ w
  pub some_high : r.top < r.bottom
  pub high : r.bottom ≤ h

-- its pixels
abbrev pub area_of : Rect → ℕ
area_of r = (r.bottom - r.top) * (r.right - r.left)

-- d starts with the strip of the input, worked along its rows
abbrev pub StripAcross : Rule → Context → List ℕ → List ℕ → Input → Rect → List ℕ → Type 0
StripAcross rule c src ws i r d = Strip (across_of rule c.w (shown c src ws i)) 0 r.left r.right r.top r.bottom d

-- the strip that d starts with, worked down its columns, stands from the pixel `at` of d' on
abbrev pub StripDown : Rule → Rect → ℕ → List ℕ → List ℕ → Type 0
StripDown rule r at d d' = Worked rule (4 * at) (4 * (r.right - r.left)) (r.bottom - r.top) d d'
