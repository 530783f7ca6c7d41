-- How a step sees what stands in the caller's buffers: each input brought to the step's working space. Assumes nothing.
use Rattle.std.specs.Prelude.{ℕ, ◌<◌, List, length, get_or}
use Rattle.pixel.specs.declared.Space as S
use Rattle.pixel.specs.declared.Space.TheVariants.{Srgb}
use Rattle.kernel_remap.specs.Pairs.{Pairs}
use Rattle.filter.specs.declared.Input.{Input}
use Rattle.filter.specs.declared.Input.TheVariants.{Source, SourceAlpha, Layer}
use Rattle.filter.specs.Effect.{Env}
use Rattle.filter.specs.Sheets.{seen}
use Rattle.buffers.specs.declared.Context.{Context}
use Rattle.buffers.specs.Buffers.{stands}

-- the space that each input is kept in, by the spaces of the layers
unfoldable pub spaces_by : List S.Space → Input → S.Space
spaces_by spaces Source = Srgb
spaces_by spaces SourceAlpha = Srgb
spaces_by spaces (Layer k) = get_or spaces k Srgb

abbrev pub spaces_in : Context → Input → S.Space
spaces_in c = spaces_by c.spaces

-- the context of a step that sees an input as it is kept
abbrev pub as_kept : Context → Input → Context
as_kept c i = record c { space = spaces_in c i }

-- what a step sees at each input
unfoldable pub shown : Context → List ℕ → List ℕ → Env
shown c source workspace = seen (spaces_in c) c.space (stands c.w c.h source workspace)

-- a table is empty, or it is that of the step's space
pub record Tabled (c : Context) (table : List ℕ) : Type 0 where
  pub good : 0 < length table → Pairs c.space table
