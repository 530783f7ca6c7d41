-- What the functions for one row ask of each other: no promise to a caller cites these. Assumes nothing.
use Rattle.std.specs.Prelude.{ℕ, ◌+◌, ◌-◌, ◌*◌, ◌≡◌, cond, List, [], eqb, length}
use Rattle.pixel.specs.declared.Operator.TheVariants.{Over}
use Rattle.pixel.specs.Bytes.{pixel_at, Painted}
use Rattle.pixel.specs.Composite.{composited}
use Rattle.filter.specs.declared.Input.{Input}
use Rattle.filter.specs.declared.Inputs.{Inputs}
use Rattle.filter.specs.declared.Shape.{Shape}
use Rattle.filter.specs.Picture.{Picture}
use Rattle.filter.specs.Effect.{Env}
use Rattle.filter.specs.Kinds.{first_inputs, stacked, work_of, reads}
use Rattle.filter.specs.Earlier.{Earlier}
use Rattle.filter.specs.Accepted.{Measured}
use Rattle.buffers.specs.declared.Context.{Context}
use Rattle.buffers.specs.declared.RowPart.{RowPart}
use Rattle.buffers.specs.Shown.{shown}
use Rattle.buffers.specs.Context.{Drawable, LoadedPart, RowPainted}

-- a step of this shape can be worked on these buffers
pub record Workable (c : Context) (src ws pairs : List ℕ) (k : Shape) : Type 0 where
  pub drawable : Drawable c src ws pairs
  pub earlier : Earlier c.n (reads c.w c.h k)
  pub measured : Measured k

-- a work row for the columns from `from` up to `to`
abbrev pub WorkRow : ℕ → ℕ → List ℕ → Type 0
WorkRow from to row = length row ≡ 4 * (to - from)

-- the part of the step's own layer is drawn
abbrev pub RowDrawn : Context → Shape → RowPart → List ℕ → List ℕ → List ℕ → Type 0
RowDrawn c k p src ws ws' = RowPainted c p (λ x. work_of c.w c.h k [] (shown c src ws) x p.y) ws ws'

-- input j of a merge, counted from 0
abbrev pub merge_input_at : Inputs → ℕ → Input
merge_input_at is j = cond (eqb j 0) is.first (cond (eqb j 1) is.second (cond (eqb j 2) is.third is.fourth))

-- the first n inputs, each laid over those before it
abbrev pub stack_of : Env → Inputs → ℕ → Picture
stack_of E is n x y = stacked E x y (first_inputs n is)

abbrev pub RowStacked : Env → Inputs → ℕ → RowPart → List ℕ → List ℕ → Type 0
RowStacked E is n p row row' = LoadedPart (stack_of E is n) p row row'

-- the part of a picture is laid over what the work row holds
abbrev pub Laid : Picture → RowPart → List ℕ → List ℕ → Type 0
Laid q p row row' = Painted (λ x. composited Over (q (p.from + x) p.y) (pixel_at row (4 * x))) 0 0 (p.to - p.from) row row'
