-- How the code copies a row and brings it to a step's space. Only the code needs these definitions: no promise to a caller cites them. Assumes nothing.
use Rattle.std.specs.Prelude.{ℕ, ◌*◌, List}
use Rattle.pixel.specs.Bytes.{pixel_at, Painted}
use Rattle.pixel.specs.Remap.{remapped}
use Rattle.pixel.specs.Space.{space_maps}
use Rattle.filter.specs.declared.Input.{Input}
use Rattle.buffers.specs.declared.Context.{Context}
use Rattle.buffers.specs.declared.RowPart.{RowPart}
use Rattle.buffers.specs.Buffers.{stands}
use Rattle.buffers.specs.Context.{LoadedPart}

-- the work row now starts with the part of an input as it stands
abbrev pub Copied : Context → Input → RowPart → List ℕ → List ℕ → List ℕ → List ℕ → Type 0
Copied context i part source workspace row row' = LoadedPart (stands context.w context.h source workspace i) part row row'

-- the first count pixels of a row, brought to the step's space from the other one
abbrev pub RowConverted : Context → ℕ → List ℕ → List ℕ → Type 0
RowConverted context count row row' = Painted (λ j. remapped (space_maps context.space) (pixel_at row (4 * j))) 0 0 count row row'
