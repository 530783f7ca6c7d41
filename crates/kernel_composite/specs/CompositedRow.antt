-- What a row composited with another holds. Assumes nothing.
use Rattle.std.specs.Prelude.{ℕ, ◌*◌, List}
use Rattle.pixel.specs.declared.Operator.{Operator}
use Rattle.pixel.specs.declared.Pixel.{Pixel}
use Rattle.pixel.specs.Bytes.{pixel_at}
use Rattle.pixel.specs.Composite.{composited}

-- pixel x of the row a composited with that of b
abbrev pub composited_at : Operator → List ℕ → List ℕ → ℕ → Pixel
composited_at o a b x = composited o (pixel_at a (4 * x)) (pixel_at b (4 * x))
