-- One step of a call: what it asks, and what it leaves. Only the code's own steps cite it. Assumes nothing.
use Rattle.std.specs.Prelude.{ℕ, ◌+◌, ◌*◌, ◌≤◌, ◌≡◌, true, false, List, length, set}
use Rattle.filter.specs.declared.Rect.{Rect}
use Rattle.filter.specs.declared.Region.{Region}
use Rattle.filter.specs.declared.Step.{Step}
use Rattle.filter.specs.declared.Sheet.{Sheet}
use Rattle.filter.specs.declared.Call.{Call}
use Rattle.filter.specs.declared.Call.TheVariants as C
use Rattle.filter.specs.Rect.{canvas_of, bounds_of, area}
use Rattle.filter.specs.Picture.{Picture, patch}
use Rattle.filter.specs.Effect.{Effect}
use Rattle.filter.specs.Layers.{result, damage}
use Rattle.filter.specs.Sheets.{effect_of}
use Rattle.filter.specs.Bytes.{size, read}
use Rattle.filter.specs.Answers.{Answer, accepted?}
use Rattle.filter.specs.Accepted.{AcceptedStep}
use Rattle.filter.specs.Limits.{most_pixels}
use Rattle.buffers.specs.Buffers.{stands, Sized, ValidInputs}
use Rattle.buffers.specs.Shown.{spaces_by}
use Rattle.buffers.specs.LayerReplaced.{LayerReplaced}
use Rattle.damage.specs.declared.SoFar.{SoFar}
use Rattle.damage.specs.InputRects.{rect_of, AllWithin}

-- what step n asks of the buffers, in a render as in a redraw
pub record StepReady (w h n : ℕ) (step : Step) (src ws scr : List ℕ) : Type 0 where
  pub sized : Sized w h n src ws
  pub scratch : length scr ≡ 2 * size w h
  pub inputs : ValidInputs n (stands w h src ws)
  pub accepted : AcceptedStep w h n step

-- and of the rectangles so far
pub record RectsReady (w h n : ℕ) (g : Region) (so_far : SoFar) : Type 0 where
  pub within : AllWithin w h (bounds_of g) so_far.rects
  pub few : so_far.count ≤ n * most_pixels

pub record NextReady (call : Call) (sheet : Sheet) (n : ℕ) (step : Step) (so_far : SoFar) (src ws scr : List ℕ) : Type 0 where
  pub buffers : StepReady sheet.width sheet.height n step src ws scr
  pub rects : (g : Region) → call ≡ C.Redraw g → RectsReady sheet.width sheet.height n g so_far

-- a step, its inputs in the spaces that the layers so far are kept in
abbrev pub step_effect : ℕ → ℕ → Step → SoFar → Effect
step_effect w h step so_far = effect_of w h (spaces_by so_far.spaces) step

-- its layer, from what stands in the buffers
abbrev pub step_layer : ℕ → ℕ → Step → List ℕ → List ℕ → SoFar → Picture
step_layer w h step src ws so_far = result (canvas_of w h) (step_effect w h step so_far) (stands w h src ws)

-- its redraw rectangle, from those so far
abbrev pub step_rect : ℕ → ℕ → Region → Step → SoFar → Rect
step_rect w h g step so_far = damage (canvas_of w h) (step_effect w h step so_far) (rect_of (bounds_of g) so_far.rects)

-- a render's step, and a redraw's: ws' is the workspace after it, now what it leaves to the next
pub record Rendered (w h n : ℕ) (step : Step) (src ws ws' : List ℕ) (so_far now : SoFar) : Type 0 where
  pub layer : LayerReplaced w h n (step_layer w h step src ws so_far) ws ws'
  pub count : now.count ≡ so_far.count
  pub spaces : now.spaces ≡ set so_far.spaces n step.space

pub record Redrawn (w h n : ℕ) (g : Region) (step : Step) (src ws ws' : List ℕ) (so_far now : SoFar) : Type 0 where
  pub layer : LayerReplaced w h n (patch (step_rect w h g step so_far) (step_layer w h step src ws so_far) (read w h ws (n * size w h))) ws ws'
  pub rects : now.rects ≡ set so_far.rects n (step_rect w h g step so_far)
  pub count : now.count ≡ so_far.count + area (step_rect w h g step so_far)
  pub small : area (step_rect w h g step so_far) ≤ most_pixels
  pub spaces : now.spaces ≡ set so_far.spaces n step.space

unfoldable pub CallStepDrawn : Call → Sheet → ℕ → Step → List ℕ → List ℕ → List ℕ → SoFar → SoFar → Type 0
CallStepDrawn C.Render sheet n = Rendered sheet.width sheet.height n
CallStepDrawn (C.Redraw g) sheet n = Redrawn sheet.width sheet.height n g

pub record NextDrawn (call : Call) (sheet : Sheet) (answer : Answer) (n : ℕ) (step : Step) (src ws ws' : List ℕ) (so_far now : SoFar) : Type 0 where
  pub drawn : accepted? answer ≡ true → CallStepDrawn call sheet n step src ws ws' so_far now
  pub refused : accepted? answer ≡ false → (ws' ≡ ws) × (now ≡ so_far)

-- the scratch after it
pub record ScratchAfter (answer : Answer) (scr scr' : List ℕ) : Type 0 where
  pub long : length scr' ≡ length scr
  pub refused : accepted? answer ≡ false → scr' ≡ scr
