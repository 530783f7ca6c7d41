-- A step's line, as its fields: "A step is its kind, x, y, width, height, inputs, numbers", and its working space. Assumes nothing.
use Rattle.std.specs.Prelude.{Bool, cond, ◌&&◌, Option, Some, None, option_map, option_and_then, List, ℕ}
use Rattle.number.specs.declared.Number.{Number}
use Rattle.pixel.specs.declared.Space.{Space}
use Rattle.filter.specs.declared.Region.{Region}
use Rattle.filter.specs.declared.Input.{Input}
use Rattle.filter.specs.declared.Step.{Step}
use Rattle.filter.specs.declared.Input.TheVariants.{Source, SourceAlpha, Layer}
use Rattle.filter.specs.declared.Kind.{Kind}
use Rattle.filter.specs.Limits.{most_numbers}
use Rattle.filter.specs.Steps.{no_input, no_number}
use Rattle.text_field.specs.Words.{bytes}
use Rattle.text_field.specs.Field.{same, whole_of, numeral_of, given?}
use Rattle.text_step.specs.ManyFields.{array_of}
use Rattle.text_step.specs.Fields.{whole_field, whole_at}
use Rattle.text_step.specs.Spaces.{space_at, closed?}
use Rattle.text_step.specs.Kinds.{kind_of, sound?}
use Rattle.text_step.specs.Layout.{fields_of, input_fields, number_fields}

-- "x, y, width, height"
abbrev pub region? : List (List ℕ) → Bool
region? fs = given? (whole_field fs 1) && (given? (whole_field fs 2) && (given? (whole_field fs 3) && given? (whole_field fs 4)))

abbrev pub region_of : List (List ℕ) → Region
region_of fs = record { x = whole_at fs 1; y = whole_at fs 2; width = whole_at fs 3; height = whole_at fs 4 }

abbrev pub region_in : List (List ℕ) → Option Region
region_in fs = cond (region? fs) (Some (region_of fs)) None

-- "Inputs: `src`, `alpha` or a step number"
unfoldable pub input_of : List ℕ → Option Input
input_of f = cond (same f (bytes "src")) (Some Source) (cond (same f (bytes "alpha")) (Some SourceAlpha) (option_map Layer (whole_of f)))

-- the four places of the inputs, and those of the numbers
abbrev pub step_inputs_of : List (List ℕ) → Option (List Input)
step_inputs_of fs = array_of input_of 4 no_input fs

abbrev pub step_numbers_of : List (List ℕ) → Option (List Number)
step_numbers_of fs = array_of numeral_of most_numbers no_number fs

-- a step where every part is of the form
abbrev pub assembled : Kind → Option Region → Option (List Input) → Option (List Number) → Space → Option Step
assembled k (Some r) (Some w) (Some o) s = Some (record { kind = k; region = r; inputs = w; numbers = o; space = s })
assembled k (Some r) (Some w) None s = None
assembled k (Some r) None o s = None
assembled k None w o s = None

-- the line of a kind: its fields, and no more than a working space behind them
unfoldable pub step_as : Kind → List (List ℕ) → Option Step
step_as k fs =
    cond (sound? k fs && closed? (fields_of k) fs)
    (assembled k (region_in fs) (step_inputs_of (input_fields k fs)) (step_numbers_of (number_fields k fs)) (space_at fs (fields_of k)))
    None

-- a step's line
unfoldable pub step_of : List (List ℕ) → Option Step
step_of fs = option_and_then (λ k. step_as k fs) (kind_of fs)
