-- A convolution drawn inside one rectangle of its layer. Assumes nothing.
use Rattle.std.specs.Prelude.{List, ℕ}
use Rattle.number.specs.declared.Fixed.{Fixed}
use Rattle.pixel.specs.declared.Convolution.{Convolution}
use Rattle.pixel.specs.Convolve.{convolved}
use Rattle.filter.specs.declared.Input.{Input}
use Rattle.filter.specs.declared.Rect.{Rect}
use Rattle.filter.specs.declared.Shape.TheVariants.{Convolve}
use Rattle.filter.specs.Picture.{Picture}
use Rattle.filter.specs.Kinds.{value_at, work_of}
use Rattle.buffers.specs.declared.Context.{Context}
use Rattle.buffers.specs.declared.RowPart.{RowPart}
use Rattle.buffers.specs.Shown.{shown}
use Rattle.buffers.specs.Context.{RowPainted, DrawnIn}

-- the convolution of a picture on the step's canvas
abbrev pub convolved_in : Context → Convolution → List Fixed → Picture → Picture
convolved_in c k v g = convolved c.w c.h k (value_at v) g

-- a part of a row of it, and a rectangle of it, in the step's own layer
abbrev pub RowConvolved : Context → Convolution → List Fixed → Picture → RowPart → List ℕ → List ℕ → Type 0
RowConvolved c k v g p ws ws' = RowPainted c p (λ x. convolved_in c k v g x p.y) ws ws'

abbrev pub RectConvolved : Context → Convolution → List Fixed → Picture → Rect → List ℕ → List ℕ → Type 0
RectConvolved c k v g r ws ws' = DrawnIn c r (convolved_in c k v g) ws ws'

-- the step is drawn inside the rectangle
abbrev pub ConvolveDrawn : Context → Convolution → List Fixed → Input → Rect → List ℕ → List ℕ → List ℕ → Type 0
ConvolveDrawn c k v i r src ws ws' = DrawnIn c r (work_of c.w c.h (Convolve k i) v (shown c src ws)) ws ws'
