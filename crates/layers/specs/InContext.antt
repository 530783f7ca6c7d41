-- A resolved step in its context: what it asks, and what it leaves. Only the code's own steps cite it. Assumes nothing.
use Rattle.std.specs.Prelude.{ℕ, ◌*◌, ◌≡◌, List, length}
use Rattle.filter.specs.declared.Rect.{Rect}
use Rattle.filter.specs.declared.Resolved.{Resolved}
use Rattle.filter.specs.Rect.{In, canvas_of, meet}
use Rattle.filter.specs.Picture.{Picture, patch}
use Rattle.filter.specs.Layers.{result}
use Rattle.filter.specs.Kinds.{reads}
use Rattle.filter.specs.Sheets.{effect_by}
use Rattle.filter.specs.Earlier.{Earlier}
use Rattle.filter.specs.Bytes.{size, read}
use Rattle.filter.specs.Accepted.{Within, Bounded}
use Rattle.buffers.specs.declared.Context.{Context}
use Rattle.buffers.specs.Buffers.{stands, Sized, ValidInputs}
use Rattle.buffers.specs.Shown.{spaces_in}
use Rattle.buffers.specs.LayerReplaced.{LayerReplaced}

-- what a checked step asks
pub record ContextReady (c : Context) (s : Resolved) (r : Rect) (src ws scr : List ℕ) : Type 0 where
  pub sized : Sized c.w c.h c.n src ws
  pub scratch : length scr ≡ 2 * size c.w c.h
  pub inputs : ValidInputs c.n (stands c.w c.h src ws)
  pub earlier : Earlier c.n (reads c.w c.h s.shape)
  pub bounded : Bounded s
  pub region : Within c.w c.h r

-- the step's layer, worked from what stands
abbrev pub layer_in : Context → Resolved → Rect → List ℕ → List ℕ → Picture
layer_in c s region src ws =
    result (canvas_of c.w c.h) (effect_by c.w c.h (spaces_in c) c.space s region) (stands c.w c.h src ws)

-- the rectangle lies in the region and on the canvas
pub record RectInside (c : Context) (region r : Rect) : Type 0 where
  pub inside : (x y : ℕ) → In r x y → In (meet (canvas_of c.w c.h) region) x y
  pub within : Within c.w c.h r

-- a render's step, and a redraw's
abbrev pub ContextRendered : Context → Resolved → Rect → List ℕ → List ℕ → List ℕ → Type 0
ContextRendered c s region src ws ws' = LayerReplaced c.w c.h c.n (layer_in c s region src ws) ws ws'

abbrev pub ContextRedrawn : Context → Resolved → Rect → Rect → List ℕ → List ℕ → List ℕ → Type 0
ContextRedrawn c s region rect src ws ws' =
    LayerReplaced c.w c.h c.n (patch rect (layer_in c s region src ws) (read c.w c.h ws (c.n * size c.w c.h))) ws ws'
