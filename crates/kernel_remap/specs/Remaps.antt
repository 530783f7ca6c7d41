-- Four maps of bytes, one for each channel, as 1,024 bytes; and the tables of R, G and B that a row is remapped by: what becomes of every
-- colour at every alpha, 65,536 bytes each. Assumes nothing.
use Rattle.std.specs.Prelude.{ℕ, ◌+◌, ◌*◌, ◌<◌, ◌≡◌, cond, List, eqb, length, get_or}
use Rattle.pixel.specs.declared.Pixel.{Pixel}
use Rattle.pixel.specs.declared.Space.{Space}
use Rattle.pixel.specs.Alpha.{pixel, Valid, Bytes}
use Rattle.pixel.specs.Bytes.{pixel_at}
use Rattle.pixel.specs.Remap.{Maps, remapped}
use Rattle.pixel.specs.Space.{space_maps}
use Rattle.kernel_remap.specs.Pairs.{Pairs}

-- R, G, B and A, 256 bytes each
abbrev pub maps_in : List ℕ → Maps
maps_in maps =
    record { r = λ c. get_or maps c 0; g = λ c. get_or maps (256 + c) 0; b = λ c. get_or maps (512 + c) 0; a = λ c. get_or maps (768 + c) 0 }

-- each colour looked up in its own table, the alpha in its map
abbrev pub looked_up : List ℕ → List ℕ → Pixel → Pixel
looked_up tables maps p =
    pixel
    (get_or tables (256 * p.a + p.r) 0)
    (get_or tables (65536 + 256 * p.a + p.g) 0)
    (get_or tables (131072 + 256 * p.a + p.b) 0)
    (get_or maps (768 + p.a) 0)

-- pixel x of a row
abbrev pub looked_up_at : List ℕ → List ℕ → List ℕ → ℕ → Pixel
looked_up_at tables maps row x = looked_up tables maps (pixel_at row (4 * x))

-- the table of the conversion that comes first, or an empty one where none does
pub record Inner (to : Space) (inner : List ℕ) : Type 0 where
  pub good : 0 < length inner → Pairs to inner

abbrev pub seen_by : Space → List ℕ → Pixel → Pixel
seen_by to inner p = cond (eqb (length inner) 0) p (remapped (space_maps to) p)

-- Every valid pixel is found converted and remapped. An entry whose colour is above its alpha may be anything: no valid pixel looks there.
pub record Remaps (to : Space) (inner maps tables : List ℕ) : Type 0 where
  pub long : length tables ≡ 196608
  pub found : (p : Pixel) → Valid p → Bytes p → looked_up tables maps p ≡ remapped (maps_in maps) (seen_by to inner p)
