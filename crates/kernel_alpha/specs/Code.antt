-- What the code's own steps work out. No promise to a caller cites these. Assumes nothing.
use Rattle.std.specs.Prelude.{ℕ, List, get_or}
use Rattle.pixel.specs.declared.Pixel.{Pixel}
use Rattle.pixel.specs.Alpha.{pixel, premultiplied}

-- what the bytes of a pixel with the alpha a are multiplied by
abbrev pub factors : ℕ → Pixel
factors a = pixel a a a 255

-- byte i of d by that of f
abbrev pub scaled_by : List ℕ → List ℕ → ℕ → ℕ
scaled_by d f i = premultiplied (get_or d i 0) (get_or f i 0)
