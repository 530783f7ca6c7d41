-- The steps of a checked call, drawn: what they ask, and what they leave. Assumes nothing.
use Rattle.std.specs.Prelude.{ℕ, ◌<◌, ◌≡◌, true, false, List, length}
use Rattle.filter.specs.declared.Region.{Region}
use Rattle.filter.specs.declared.Step.{Step}
use Rattle.filter.specs.declared.Sheet.{Sheet}
use Rattle.filter.specs.declared.Call.{Call}
use Rattle.filter.specs.declared.Call.TheVariants as C
use Rattle.filter.specs.Rect.{canvas_of, bounds_of}
use Rattle.filter.specs.Picture.{Picture}
use Rattle.filter.specs.Layers as L
use Rattle.filter.specs.Steps.{step_at}
use Rattle.filter.specs.Sheets.{effects_of}
use Rattle.filter.specs.Bytes.{Holds, layers_of, redrawn_of}
use Rattle.filter.specs.Answers.{Answer, accepted?}
use Rattle.filter.specs.Accepted.{OnCanvas}
use Rattle.filter.specs.Valid.{FloodBytes}
use Rattle.layers.specs.Given.{Given}
use Rattle.layers.specs.Ready.{Ready, ValidLayers}

-- the layers that a call leaves: all of them anew, or those in the workspace redrawn
abbrev pub drawn_of : Call → ℕ → ℕ → List Step → ℕ → List ℕ → List ℕ → ℕ → Picture
drawn_of C.Render w h steps count ws src = layers_of w h steps count src
drawn_of (C.Redraw g) w h steps count ws src = redrawn_of w h steps count (bounds_of g) ws src

-- how many pixels a redraw works; a full render counts none
abbrev pub count_for : Call → ℕ → ℕ → List Step → ℕ → ℕ
count_for C.Render w h steps count = 0
count_for (C.Redraw g) w h steps count = L.count (canvas_of w h) (effects_of w h steps) (bounds_of g) count

-- what an accepted call gives
pub record ReadyFor (call : Call) (sheet : Sheet) (steps : List Step) (src ws scr : List ℕ) : Type 0 where
  pub ready : Ready sheet.width sheet.height steps sheet.count src ws scr
  pub floods : (k : ℕ) → k < sheet.count → FloodBytes (step_at steps k).kind
  pub redraw : (g : Region) → call ≡ C.Redraw g → ValidLayers sheet.width sheet.height sheet.count ws × OnCanvas sheet.width sheet.height g

-- what is left of g: ws' and scr' are the workspace and the scratch after it, total is the count of pixels
pub record Drawing (g : Given) (answer : Answer) (ws' scr' : List ℕ) (total : ℕ) : Type 0 where
  pub drawn : accepted? answer ≡ true
      → Holds g.sheet.width g.sheet.height g.sheet.count ws'
      (drawn_of g.call g.sheet.width g.sheet.height g.steps g.sheet.count g.workspace g.source)
      × (length scr' ≡ length g.scratch)
      × (total ≡ count_for g.call g.sheet.width g.sheet.height g.steps g.sheet.count)
  pub refused : accepted? answer ≡ false → (ws' ≡ g.workspace) × (scr' ≡ g.scratch) × (total ≡ 0)
