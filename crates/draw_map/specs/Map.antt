-- A step of the shape map, drawn inside a rectangle. Assumes nothing.
use Rattle.std.specs.Prelude.{ℕ, List}
use Rattle.pixel.specs.declared.Pixel.{Pixel}
use Rattle.filter.specs.declared.Input.{Input}
use Rattle.filter.specs.declared.Rect.{Rect}
use Rattle.buffers.specs.declared.Context.{Context}
use Rattle.buffers.specs.Shown.{shown}
use Rattle.buffers.specs.Context.{DrawnIn}

-- each pixel of the rectangle is f of the input's at its place
abbrev pub MapDrawn : Context → (Pixel → Pixel) → Input → Rect → List ℕ → List ℕ → List ℕ → Type 0
MapDrawn c f i r src ws ws' = DrawnIn c r (λ x y. f (shown c src ws i x y)) ws ws'
