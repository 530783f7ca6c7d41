-- Where the inputs and numbers of a kind stand in its line. Assumes nothing.
use Rattle.std.specs.Prelude.{cond, List, [], ℕ, ◌+◌, ltb, get_or}
use Rattle.pixel.specs.declared.Transfers.{Transfers}
use Rattle.pixel.specs.declared.Convolution.{Convolution}
use Rattle.filter.specs.declared.Map.{Map}
use Rattle.filter.specs.declared.Kind.{Kind}
use Rattle.filter.specs.declared.Kind.TheVariants as K
use Rattle.filter.specs.Convolutions.{values_in}
use Rattle.filter.specs.Signature.{curve_numbers, byte_fields_of, inputs_of, numbers_of}
use Rattle.filter.specs.Steps.{listed}
use Rattle.text_step.specs.Transfers.{head_of}

-- the fields in front of number i that are no numbers: of a curve the words and counts up to its channel
abbrev pub curve_heads : Transfers → ℕ → ℕ
curve_heads t i =
    cond (ltb i (curve_numbers t).first.end) (head_of t.r)
    (cond (ltb i (curve_numbers t).second.end) (head_of t.r + head_of t.g)
    (cond (ltb i (curve_numbers t).third.end) (head_of t.r + head_of t.g + head_of t.b)
    (head_of t.r + head_of t.g + head_of t.b + head_of t.a)))

abbrev pub map_heads : Map → ℕ → ℕ
map_heads Map.Matrix i = 0
map_heads Map.Saturate i = 0
map_heads Map.Luminance i = 0
map_heads (Map.Curve t) i = curve_heads t i

-- of a convolution the orders, and in front of the bias the divisor's field where it is empty
abbrev pub convolution_heads : Convolution → ℕ → ℕ
convolution_heads k i = cond (ltb i (values_in k)) 2 (cond k.divided 2 3)

abbrev pub heads_to : Kind → ℕ → ℕ
heads_to (K.Flood r g b) i = 0
heads_to K.Offset i = 0
heads_to (K.Pass p) i = 0
heads_to (K.Map m) i = map_heads m i
heads_to (K.Pair p) i = 0
heads_to (K.Merge n) i = 0
heads_to (K.Convolve k) i = convolution_heads k i

-- the field of number i: word and region, bytes and inputs come first
abbrev pub number_field : Kind → ℕ → ℕ
number_field k i = 5 + byte_fields_of k + inputs_of k + heads_to k i + i

-- how many fields stand behind the numbers: a convolution's target, preserve-alpha and edge mode
abbrev pub behind_of : Kind → ℕ
behind_of (K.Flood r g b) = 0
behind_of K.Offset = 0
behind_of (K.Pass p) = 0
behind_of (K.Map m) = 0
behind_of (K.Pair p) = 0
behind_of (K.Merge n) = 0
behind_of (K.Convolve k) = 4

-- how many fields a kind has: those up to where a number more would stand, and those behind the numbers
abbrev pub fields_of : Kind → ℕ
fields_of k = number_field k (numbers_of k) + behind_of k

-- n fields from the field at on
abbrev pub fields_from : ℕ → ℕ → List (List ℕ) → List (List ℕ)
fields_from at n fs = listed (λ i. get_or fs (at + i) []) 0 n

-- the fields of the inputs, and of the numbers
abbrev pub input_fields : Kind → List (List ℕ) → List (List ℕ)
input_fields k fs = fields_from (5 + byte_fields_of k) (inputs_of k) fs

abbrev pub number_fields : Kind → List (List ℕ) → List (List ℕ)
number_fields k fs = listed (λ i. get_or fs (number_field k i) []) 0 (numbers_of k)
