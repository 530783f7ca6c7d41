-- What drawing a step in its context asks of the buffers, and what it leaves in them. Assumes nothing.
use Rattle.std.specs.Prelude.{ℕ, ◌+◌, ◌-◌, ◌*◌, ◌≤◌, ◌<◌, List, length}
use Rattle.pixel.specs.declared.Pixel.{Pixel}
use Rattle.pixel.specs.Bytes.{pixel_at, Painted}
use Rattle.filter.specs.declared.Rect.{Rect}
use Rattle.filter.specs.declared.Resolved.{Resolved}
use Rattle.filter.specs.Picture.{Picture}
use Rattle.filter.specs.Kinds.{work}
use Rattle.filter.specs.Bytes.{size}
use Rattle.filter.specs.Limits.{longest_side, most_steps}
use Rattle.buffers.specs.declared.Context as C
use Rattle.buffers.specs.declared.RowPart.{RowPart}
use Rattle.buffers.specs.Buffers.{stands, Loaded, Sized, ValidInputs, row_at}
use Rattle.buffers.specs.Shown.{shown, Tabled}
use Rattle.buffers.specs.Drawn.{Drawn}

-- the canvas and the step's number are within their limits
pub record InLimits (c : C.Context) : Type 0 where
  pub wide : c.w ≤ longest_side
  pub high : c.h ≤ longest_side
  pub steps : c.n < most_steps

-- where the step's own layer ends; it lies in the workspace
abbrev pub layer_end : C.Context → ℕ
layer_end c = c.n * size c.w c.h + size c.w c.h

abbrev pub LayerIn : C.Context → List ℕ → Type 0
LayerIn c ws = layer_end c ≤ length ws

-- the part lies on the canvas
pub record OnRow (c : C.Context) (p : RowPart) : Type 0 where
  pub high : p.y < c.h
  pub order : p.from ≤ p.to
  pub wide : p.to ≤ c.w

-- the inputs can be read, with a table or without
pub record Readable (c : C.Context) (src ws pairs : List ℕ) : Type 0 where
  pub sized : Sized c.w c.h c.n src ws
  pub tabled : Tabled c pairs

-- and the pictures that stand there are valid
pub record Drawable (c : C.Context) (src ws pairs : List ℕ) : Type 0 where
  pub readable : Readable c src ws pairs
  pub valid : ValidInputs c.n (stands c.w c.h src ws)

-- the work row now starts with the part of the picture
abbrev pub LoadedPart : Picture → RowPart → List ℕ → List ℕ → Type 0
LoadedPart q p row row' = Loaded q p.y p.from p.to row row'

-- column x of pixels that lie in a work row from the place `at` on; the first of them is column `from`
abbrev pub columns_at : List ℕ → ℕ → ℕ → ℕ → Pixel
columns_at row at from x = pixel_at row (4 * (at + (x - from)))

-- the part of the step's own layer now has these pixels, column by column
abbrev pub RowPainted : C.Context → RowPart → (ℕ → Pixel) → List ℕ → List ℕ → Type 0
RowPainted c p f ws ws' = Painted f (row_at c.w c.h c.n p.y) p.from p.to ws ws'

-- the rectangle of the step's own layer now has the pixels of the picture
abbrev pub DrawnIn : C.Context → Rect → Picture → List ℕ → List ℕ → Type 0
DrawnIn c r new ws ws' = Drawn c.w c.h c.n r new ws ws'

-- the step is drawn inside the rectangle
abbrev pub StepDrawn : C.Context → Resolved → Rect → List ℕ → List ℕ → List ℕ → Type 0
StepDrawn c s r src ws ws' = DrawnIn c r (work c.w c.h s (shown c src ws)) ws ws'
