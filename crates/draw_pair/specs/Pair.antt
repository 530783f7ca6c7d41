-- A step of the shape pair, drawn inside a rectangle. Assumes nothing.
use Rattle.std.specs.Prelude.{ℕ, List}
use Rattle.pixel.specs.declared.Pixel.{Pixel}
use Rattle.filter.specs.declared.Input.{Input}
use Rattle.filter.specs.declared.Rect.{Rect}
use Rattle.buffers.specs.declared.Context.{Context}
use Rattle.buffers.specs.Shown.{shown}
use Rattle.buffers.specs.Context.{DrawnIn}

-- each pixel of the rectangle is f of the two inputs' at its place
abbrev pub PairDrawn : Context → (Pixel → Pixel → Pixel) → Input → Input → Rect → List ℕ → List ℕ → List ℕ → Type 0
PairDrawn c f i j r src ws ws' = DrawnIn c r (λ x y. f (shown c src ws i x y) (shown c src ws j x y)) ws ws'
