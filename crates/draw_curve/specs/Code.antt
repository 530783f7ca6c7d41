-- What the functions for a curve ask of each other. Only the code needs these definitions: no promise to a caller cites them. Assumes nothing.
use Rattle.std.specs.Prelude.{ℕ, ◌≡◌, Bool, cond, List, ltb, length}
use Rattle.pixel.specs.declared.Pixel.{Pixel}
use Rattle.pixel.specs.Alpha.{Valid, Bytes}
use Rattle.pixel.specs.Remap.{remapped}
use Rattle.pixel.specs.Space.{space_maps}
use Rattle.kernel_remap.specs.Remaps.{maps_in, looked_up}
use Rattle.filter.specs.declared.Input.{Input}
use Rattle.buffers.specs.declared.Context.{Context}
use Rattle.buffers.specs.Seen.{converts?}

-- whether there are tables
abbrev pub tabled? : List ℕ → Bool
tabled? tables = ltb 0 (length tables)

-- a pixel of an input, brought to the step's space where the input is converted
abbrev pub seen_as : Context → Input → Pixel → Pixel
seen_as c i p = cond (converts? c i) (remapped (space_maps c.space) p) p

-- The tables have the conversion in them: every valid pixel of the input, as it is kept, is found seen in the step's space and remapped.
pub record CurveTables (c : Context) (i : Input) (maps tables : List ℕ) : Type 0 where
  pub long : length tables ≡ 196608
  pub found : (p : Pixel) → Valid p → Bytes p → looked_up tables maps p ≡ remapped (maps_in maps) (seen_as c i p)
