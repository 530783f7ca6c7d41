-- Lines of a convolution, worked by hand. Assumes nothing.
use Rattle.std.specs.Prelude.{true, false, Option, Some, is_some, ◌≡◌, refl, List, ◌∷◌, ◌++◌, ℕ, negsuc, replicate}
use Rattle.number.specs.declared.Number.TheVariants.{Decimal}
use Rattle.pixel.specs.declared.Space.TheVariants as S
use Rattle.pixel.specs.declared.Edge.TheVariants as E
use Rattle.filter.specs.declared.Input.TheVariants.{Layer}
use Rattle.filter.specs.declared.Kind.TheVariants as K
use Rattle.filter.specs.declared.Step.{Step}
use Rattle.filter.specs.Steps.{no_input, no_number}
use Rattle.text_field.specs.Words.{bytes}
use Rattle.text_field.specs.Split.{split, index_of}
use Rattle.text_field.specs.Field as F
use Rattle.text_step.specs.ManyFields.{all_fields, padded, array_of}
use Rattle.text_step.specs.Spaces.{space_in}
use Rattle.text_step.specs.Convolutions.{truth_in, edge_in, convolution_of}
use Rattle.text_step.specs.Kinds.{first_kind, kind_of}
use Rattle.text_step.specs.StepLine.{input_of, step_as, step_of}
use Rattle.text_step.specs.Examples.{parts, zeros}

-- a convolution of layer 3 with the fields behind the input
abbrev pub conv : List ℕ → Option Step
conv fields = step_of (split 9 (bytes "conv\t1\t2\t4\t5\t3\t" ++ fields))

-- two columns, one row: 1 and −0.5; divisor 2, bias 0.25, target in column 1 and row 0
abbrev pub given : List ℕ
given = bytes "2\t1\t1\t-0.5\t2\t0.25\t1\t0\ttrue\twrap"

abbrev pub given_step : Step
given_step = record {
  kind = K.Convolve (record { columns = 2; rows = 1; divided = true; column = 1; row = 0; preserve = true; edge = E.Wrap });
  region = record { x = 1; y = 2; width = 4; height = 5 };
  inputs = Layer 3 ∷ replicate 3 no_input;
  numbers = parts 10000 ∷ Decimal (negsuc 4999) ∷ parts 20000 ∷ parts 2500 ∷ replicate 60 no_number;
  space = S.Linear;
}

-- the same without a divisor, of one column and two rows, in another space
abbrev pub absent : List ℕ
absent = bytes "1\t2\t1\t-0.5\t\t0.25\t0\t1\tfalse\tnone\tsrgb"

abbrev pub absent_step : Step
absent_step = record {
  kind = K.Convolve (record { columns = 1; rows = 2; divided = false; column = 0; row = 1; preserve = false; edge = E.None });
  region = record { x = 1; y = 2; width = 4; height = 5 };
  inputs = Layer 3 ∷ replicate 3 no_input;
  numbers = parts 10000 ∷ Decimal (negsuc 4999) ∷ parts 2500 ∷ replicate 61 no_number;
  space = S.Srgb;
}

-- what stands behind a bias
abbrev pub rest : List ℕ
rest = bytes "\t0\t0\tfalse\tduplicate"

pub record Kernels : Type 0 where
  pub read : conv given ≡ Some given_step
  pub without : conv absent ≡ Some absent_step
  -- orders of 1 to 5
  pub five : is_some (conv (bytes "5\t5" ++ zeros 25 ++ bytes "\t\t0" ++ rest)) ≡ true
  pub six : is_some (conv (bytes "6\t1" ++ zeros 6 ++ bytes "\t\t0" ++ rest)) ≡ false
  pub six_bare : is_some (conv (bytes "6\t1\t\t0" ++ rest)) ≡ false
  pub none : is_some (conv (bytes "0\t1\t\t0" ++ rest)) ≡ false
  pub no_order : is_some (conv (bytes "01\t1\t0\t\t0" ++ rest)) ≡ false
  -- as many values as the orders say
  pub fewer : is_some (conv (bytes "2\t2" ++ zeros 3 ++ bytes "\t\t0" ++ rest)) ≡ false
  pub more : is_some (conv (bytes "2\t2" ++ zeros 5 ++ bytes "\t\t0" ++ rest)) ≡ false
  -- only the divisor's field may be empty
  pub no_value : is_some (conv (bytes "1\t1\t\t\t0" ++ rest)) ≡ false
  pub no_bias : is_some (conv (bytes "1\t1\t0\t1\t" ++ rest)) ≡ false
  pub no_divisor : is_some (conv (bytes "1\t1\t0\t0" ++ rest)) ≡ false
  -- a target is any whole field: whether it lies inside the kernel is not asked here
  pub outside : is_some (conv (bytes "1\t1\t0\t\t0\t9999\t1\tfalse\tnone")) ≡ true
  pub no_target : is_some (conv (bytes "1\t1\t0\t\t0\t-1\t0\tfalse\tnone")) ≡ false
  pub no_target_down : is_some (conv (bytes "1\t1\t0\t\t0\t0\t\tfalse\tnone")) ≡ false
  -- words
  pub no_truth : is_some (conv (bytes "1\t1\t0\t\t0\t0\t0\tTrue\tnone")) ≡ false
  pub no_edge : is_some (conv (bytes "1\t1\t0\t\t0\t0\t0\ttrue\tmirror")) ≡ false
  pub no_word : is_some (conv (bytes "1\t1\t0\t\t0\t0\t0\ttrue\tlinear")) ≡ false

pub kernels : Kernels
unfolding split index_of F.digit_of F.accumulated F.digits_of F.natural_of F.hex_of F.fraction_of F.magnitude_of F.numeral_of
    all_fields padded array_of space_in truth_in edge_in convolution_of first_kind kind_of input_of
    step_as step_of
kernels = record {
  read = refl;
  without = refl;
  five = refl;
  six = refl;
  six_bare = refl;
  none = refl;
  no_order = refl;
  fewer = refl;
  more = refl;
  no_value = refl;
  no_bias = refl;
  no_divisor = refl;
  outside = refl;
  no_target = refl;
  no_target_down = refl;
  no_truth = refl;
  no_edge = refl;
  no_word = refl;
}
