-- Lines of a curve, worked by hand. Assumes nothing.
use Rattle.std.specs.Prelude.{true, false, Option, Some, is_some, option_map, ◌≡◌, refl, List, [], ◌∷◌, ◌++◌, ℕ, zero, suc, pos, negsuc, replicate}
use Rattle.number.specs.declared.Number.{Number}
use Rattle.number.specs.declared.Number.TheVariants.{Decimal}
use Rattle.pixel.specs.declared.Space.TheVariants as S
use Rattle.pixel.specs.declared.Transfer.TheVariants as T
use Rattle.filter.specs.declared.Input.TheVariants.{Layer}
use Rattle.filter.specs.declared.Map.TheVariants as Map
use Rattle.filter.specs.declared.Kind.TheVariants as K
use Rattle.filter.specs.declared.Step.{Step}
use Rattle.filter.specs.Steps.{no_input, no_number}
use Rattle.text_field.specs.Words.{bytes}
use Rattle.text_field.specs.Split.{split, index_of}
use Rattle.text_field.specs.Field as F
use Rattle.text_step.specs.ManyFields.{all_fields, padded, array_of}
use Rattle.text_step.specs.Spaces.{space_in}
use Rattle.text_step.specs.Transfers.{transfer_in, transfers_of}
use Rattle.text_step.specs.Kinds.{first_kind, merge_inputs, kind_of}
use Rattle.text_step.specs.StepLine.{input_of, step_as, step_of}

-- a curve of layer 3 with the channels and the space named
abbrev pub curve : List ℕ → Option Step
curve channels = step_of (split 9 (bytes "curve\t1\t2\t4\t5\t3\t" ++ channels))

-- R stays, G goes from 0 to 1, B has three levels, and A is 2 · A − 0.5
abbrev pub channels : List ℕ
channels = bytes "identity\ttable\t2\t0\t1\tdiscrete\t3\t0.25\t0.5\t0.75\tlinear\t2\t-0.5"

-- a number in ten-thousandths
abbrev pub parts : ℕ → Number
parts n = Decimal (pos n)

abbrev pub curve_step : Step
curve_step = record {
  kind = K.Map (Map.Curve (record { r = T.Identity; g = T.Table 2; b = T.Discrete 3; a = T.Linear }));
  region = record { x = 1; y = 2; width = 4; height = 5 };
  inputs = Layer 3 ∷ replicate 3 no_input;
  numbers = parts 0 ∷ parts 10000 ∷ parts 2500 ∷ parts 5000 ∷ parts 7500 ∷ parts 20000 ∷ Decimal (negsuc 4999) ∷ replicate 57 no_number;
  space = S.Linear;
}

-- so many entries of 0
abbrev pub zeros : ℕ → List ℕ
zeros zero = []
zeros (suc n) = bytes "\t0" ++ zeros n

pub record Curved : Type 0 where
  pub read : curve channels ≡ Some curve_step
  pub said : option_map (λ s. s.space) (curve (channels ++ bytes "\tsrgb")) ≡ Some S.Srgb
  -- a channel's `linear` is no working space: that comes behind all numbers
  pub behind : is_some (curve (bytes "identity\tidentity\tidentity\tidentity\tlinear")) ≡ true
  pub own : is_some (curve (bytes "identity\tidentity\tidentity\tlinear")) ≡ false
  pub both : is_some (curve (bytes "identity\tidentity\tidentity\tlinear\t1\t0\tlinear")) ≡ true
  -- 1 to 16 entries, and as many numbers
  pub one : is_some (curve (bytes "identity\tidentity\tidentity\ttable\t1" ++ zeros 1)) ≡ true
  pub sixteen : is_some (curve (bytes "identity\tidentity\tidentity\ttable\t16" ++ zeros 16)) ≡ true
  pub seventeen : is_some (curve (bytes "identity\tidentity\tidentity\ttable\t17" ++ zeros 17)) ≡ false
  pub none : is_some (curve (bytes "identity\tidentity\tidentity\tdiscrete\t0")) ≡ false
  pub no_count : is_some (curve (bytes "identity\tidentity\tidentity\tdiscrete\t01" ++ zeros 1)) ≡ false
  pub fewer : is_some (curve (bytes "identity\tidentity\tidentity\tdiscrete\t3" ++ zeros 2)) ≡ false
  pub more : is_some (curve (bytes "identity\tidentity\tidentity\tdiscrete\t3" ++ zeros 4)) ≡ false
  -- a word that is none of the four, and a channel that is missing
  pub no_word : is_some (curve (bytes "identity\tgamma\t1\t0\tidentity\tidentity")) ≡ false
  pub three : is_some (curve (bytes "identity\tidentity\tidentity")) ≡ false

pub curved : Curved
unfolding split index_of F.digit_of F.accumulated F.digits_of F.natural_of F.hex_of F.fraction_of F.magnitude_of F.numeral_of
    all_fields padded array_of space_in transfer_in transfers_of first_kind merge_inputs kind_of input_of
    step_as step_of
curved = record {
  read = refl;
  said = refl;
  behind = refl;
  own = refl;
  both = refl;
  one = refl;
  sixteen = refl;
  seventeen = refl;
  none = refl;
  no_count = refl;
  fewer = refl;
  more = refl;
  no_word = refl;
  three = refl;
}
