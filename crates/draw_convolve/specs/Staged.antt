-- The rows that a convolution reads, brought to scratch. Only the code needs these definitions: no promise to a caller cites them. Assumes nothing.
use Rattle.std.specs.Prelude.{ℕ, ◌+◌, ◌-◌, ◌*◌, ◌≤◌, ◌<◌, ◌≡◌, Bool, List, length}
use Rattle.pixel.specs.declared.Convolution.{Convolution}
use Rattle.pixel.specs.Bytes.{pixel_at, Painted}
use Rattle.pixel.specs.declared.Pixel.{Pixel}
use Rattle.pixel.specs.Convolve.{extended}
use Rattle.window.specs.Limits.{longest_side}
use Rattle.kernel_lines.specs.Lines.{line_bytes, all_lines, place_of}
use Rattle.kernel_lines.specs.Convolved.{as_read, LinesOf}
use Rattle.filter.specs.Rect.{canvas_of}
use Rattle.filter.specs.Picture.{Picture}
use Rattle.filter.specs.Valid.{BlankOutside}
use Rattle.filter.specs.Bytes.{size}
use Rattle.number.specs.declared.Fixed.{Fixed}
use Rattle.filter.specs.declared.Rect.{Rect}
use Rattle.buffers.specs.declared.Context.{Context}
use Rattle.buffers.specs.declared.RowPart.{RowPart}
use Rattle.buffers.specs.Shown.{shown}
use Rattle.draw_convolve.specs.declared.view.View.{View}
use Rattle.draw_convolve.specs.Convolved.{RowConvolved, RectConvolved}

-- the picture that a step's input shows
abbrev pub seen : View → Picture
seen v = shown v.context v.source.now v.workspace.now v.input

-- row y of the picture, as a convolution reads it, stands at its place in scratch, for the rows from .. to - 1
pub record Staged (w : ℕ) (preserve : Bool) (g : Picture) (from to : ℕ) (d : List ℕ) : Type 0 where
  pub same : (x y : ℕ) → x < w → from ≤ y → y < to → pixel_at d (4 * (y * w + x)) ≡ as_read preserve (g x y)

-- the row of a canvas h high that a result in row y reads for the kernel's row i; h where there is none
abbrev pub row_read : ℕ → Convolution → ℕ → ℕ → ℕ
row_read h k y i = place_of k.edge h k.row (y + i)

-- all that the results in the rows top .. bottom - 1 read are among the rows from .. to - 1
pub record RowsRead (h : ℕ) (k : Convolution) (top bottom from to : ℕ) : Type 0 where
  pub order : from ≤ to
  pub high : to ≤ h
  pub seen : (y i : ℕ) → top ≤ y → y < bottom → i < k.rows → row_read h k y i < h → (from ≤ row_read h k y i) × (row_read h k y i < to)

-- pixel m of line i, for the results in row y
abbrev pub line_of : ℕ → ℕ → Convolution → Picture → ℕ → ℕ → ℕ → Pixel
line_of w h k g y i m = extended k.edge h k.row (λ q. extended k.edge w k.column (λ p. as_read k.preserve (g p q)) m) (y + i)

-- what laying lines asks of the canvas, the kernel and the buffers
pub record Laid (w h : ℕ) (k : Convolution) (scratch lines : List ℕ) : Type 0 where
  pub some_wide : 0 < w
  pub wide : w ≤ longest_side
  pub high : h ≤ longest_side
  pub few_columns : k.columns ≤ 5
  pub few_rows : k.rows ≤ 5
  pub column : k.column < k.columns
  pub row : k.row < k.rows
  pub scratch_is : length scratch ≡ 2 * size w h
  pub lines_are : length lines ≡ all_lines

-- a picture that scratch holds as far as the results in the rows top .. bottom - 1 read it
pub record ScratchHolds (w h : ℕ) (k : Convolution) (top bottom : ℕ) (g : Picture) (d : List ℕ) : Type 0 where
  pub from : ℕ
  pub to : ℕ
  pub blank : BlankOutside (canvas_of w h) g
  pub staged : Staged w k.preserve g from to d
  pub read : RowsRead h k top bottom from to

-- line i is laid, and all lines are, for the results in row y of whatever picture scratch holds
abbrev pub LineLaid : ℕ → ℕ → Convolution → ℕ → ℕ → List ℕ → List ℕ → List ℕ → Type 0
LineLaid w h k y i d lines lines' =
    (g : Picture) → ScratchHolds w h k y (y + 1) g d → Painted (line_of w h k g y i) (i * line_bytes) 0 (w + k.columns - 1) lines lines'

abbrev pub LinesLaid : ℕ → ℕ → Convolution → ℕ → List ℕ → List ℕ → Type 0
LinesLaid w h k y d lines = (g : Picture) → ScratchHolds w h k y (y + 1) g d → LinesOf w h k g y lines

-- a part of a row is drawn, and a rectangle is, from whatever picture scratch holds
abbrev pub RowFrom : Context → Convolution → List Fixed → RowPart → List ℕ → List ℕ → List ℕ → Type 0
RowFrom c k v p d ws ws' = (g : Picture) → ScratchHolds c.w c.h k p.y (p.y + 1) g d → RowConvolved c k v g p ws ws'

abbrev pub RectFrom : Context → Convolution → List Fixed → Rect → List ℕ → List ℕ → List ℕ → Type 0
RectFrom c k v r d ws ws' = (g : Picture) → ScratchHolds c.w c.h k r.top r.bottom g d → RectConvolved c k v g r ws ws'
