-- A pixel brought from one working space to another. Assumes nothing.
use Rattle.std.specs.Prelude.{ℕ, Bool, true, false, cond, get_or}
use Rattle.pixel.specs.declared.Pixel.{Pixel}
use Rattle.pixel.specs.declared.Space as S
use Rattle.pixel.specs.declared.Space.TheVariants.{Srgb, Linear}
use Rattle.pixel.specs.Alpha.{premultiplied, unpremultiplied}
use Rattle.pixel.specs.Remap.{remapped}
use Rattle.pixel.specs.Space.{table_of, space_maps}

unfoldable pub differ? : S.Space → S.Space → Bool
differ? Srgb Srgb = false
differ? Srgb Linear = true
differ? Linear Srgb = true
differ? Linear Linear = false

-- "Convert by unpremultiplying, one of two tables of 256 bytes, premultiplying."
unfoldable pub converted : S.Space → S.Space → Pixel → Pixel
converted from to p = cond (differ? from to) (remapped (space_maps to) p) p

-- what the conversion to a space makes of the colour c at the alpha a
abbrev pub pair_of : S.Space → ℕ → ℕ → ℕ
pair_of to c a = premultiplied (get_or (table_of to) (unpremultiplied c a) 0) a
