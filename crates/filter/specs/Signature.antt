-- The table of steps (RULES 5.1): one row a kind. Assumes nothing.
use Rattle.std.specs.Prelude.{ℕ, ◌+◌, Bool, true, cond, ltb, None}
use Rattle.number.specs.declared.Range.{Range}
use Rattle.number.specs.declared.Range.TheVariants as R
use Rattle.pixel.specs.declared.Transfers.{Transfers}
use Rattle.pixel.specs.declared.Convolution.{Convolution}
use Rattle.filter.specs.declared.Map.{Map}
use Rattle.filter.specs.declared.Pair.{Pair}
use Rattle.filter.specs.declared.Pass.{Pass}
use Rattle.filter.specs.declared.Kind.{Kind}
use Rattle.filter.specs.declared.Kind.TheVariants as K
use Rattle.filter.specs.declared.Group.{Group}
use Rattle.filter.specs.declared.Numbers.{Numbers}
use Rattle.filter.specs.declared.Signature.{Signature}
use Rattle.filter.specs.Curves.{transfers?, transfer_count, transfer_range}
use Rattle.filter.specs.Convolutions.{convolution?, convolution_count, divisor_place}

-- the numbers before `end` that are in no group before
abbrev pub up_to : ℕ → Range → Group
up_to end r = record { end = end; range = r }

-- n numbers of one range
abbrev pub alike : ℕ → Range → Numbers
alike n r = record { first = up_to n r; second = up_to n r; third = up_to n r; fourth = up_to n r }

-- how many numbers there are, and what is allowed for number i
abbrev pub number_count : Numbers → ℕ
number_count ns = ns.fourth.end

abbrev pub range_in : Numbers → ℕ → Range
range_in ns i =
    cond (ltb i ns.first.end) ns.first.range
    (cond (ltb i ns.second.end) ns.second.range
    (cond (ltb i ns.third.end) ns.third.range
    ns.fourth.range))

-- a curve's channels, a group each
abbrev pub curve_numbers : Transfers → Numbers
curve_numbers t = record {
  first = up_to (transfer_count t.r) (transfer_range t.r);
  second = up_to (transfer_count t.r + transfer_count t.g) (transfer_range t.g);
  third = up_to (transfer_count t.r + transfer_count t.g + transfer_count t.b) (transfer_range t.b);
  fourth = up_to (transfer_count t.r + transfer_count t.g + transfer_count t.b + transfer_count t.a) (transfer_range t.a);
}

abbrev pub map_numbers : Map → Numbers
map_numbers Map.Matrix = alike 20 R.Coefficient
map_numbers Map.Saturate = alike 1 R.Fraction
map_numbers Map.Luminance = alike 0 R.Coefficient
map_numbers (Map.Curve t) = curve_numbers t

-- 16: "a table of 0 or more than 16 entries"
abbrev pub map_tables? : Map → Bool
map_tables? Map.Matrix = true
map_tables? Map.Saturate = true
map_tables? Map.Luminance = true
map_tables? (Map.Curve t) = transfers? t

abbrev pub pair_numbers : Pair → Numbers
pair_numbers (Pair.Operator o) = alike 0 R.Coefficient
pair_numbers Pair.Arithmetic = alike 4 R.Coefficient

abbrev pub pass_numbers : Pass → Numbers
pass_numbers Pass.Blur = alike 2 R.Deviation
pass_numbers Pass.Erode = alike 2 R.Radius
pass_numbers Pass.Dilate = alike 2 R.Radius

-- "Kernel values, divisor and bias lie within −256 to 256"
abbrev pub convolution_numbers : Convolution → Numbers
convolution_numbers k = alike (convolution_count k) R.Coefficient

-- bytes, inputs at least and in all, and the numbers, of a kind without tables, kernel and divisor
abbrev pub signature : ℕ → ℕ → ℕ → Numbers → Signature
signature b l i ns = record { bytes = b; least = l; inputs = i; tables = true; kernel = true; divisor = None; numbers = ns }

abbrev pub signature_of : Kind → Signature
signature_of (K.Flood r g b) = signature 3 0 0 (alike 1 R.Fraction)
signature_of K.Offset = signature 0 1 1 (alike 2 R.Offset)
signature_of (K.Pass p) = signature 0 1 1 (pass_numbers p)
signature_of (K.Map m) = record { bytes = 0; least = 1; inputs = 1; tables = map_tables? m; kernel = true; divisor = None; numbers = map_numbers m }
signature_of (K.Pair p) = signature 0 1 2 (pair_numbers p)
signature_of (K.Merge n) = signature 0 1 n (alike 0 R.Coefficient)
signature_of (K.Convolve k) =
    record { bytes = 0; least = 1; inputs = 1; tables = true; kernel = convolution? k; divisor = divisor_place k; numbers = convolution_numbers k }

abbrev pub byte_fields_of : Kind → ℕ
byte_fields_of k = (signature_of k).bytes

abbrev pub inputs_of : Kind → ℕ
inputs_of k = (signature_of k).inputs

abbrev pub numbers_of : Kind → ℕ
numbers_of k = number_count (signature_of k).numbers

abbrev pub range_at : Kind → ℕ → Range
range_at k i = range_in (signature_of k).numbers i
