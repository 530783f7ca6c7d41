-- The kinds of step by their words. Assumes nothing.
use Rattle.std.specs.Prelude.{Bool, true, cond, ◌&&◌, Option, Some, None, option_and_then, List, [], ◌∷◌, ℕ, ◌-◌, length, get_or}
use Rattle.pixel.specs.declared.Operator.{Operator}
use Rattle.pixel.specs.declared.Operator.TheVariants as O
use Rattle.filter.specs.declared.Map.{Map}
use Rattle.filter.specs.declared.Pair.{Pair}
use Rattle.filter.specs.declared.Pass.{Pass}
use Rattle.filter.specs.declared.Kind.{Kind}
use Rattle.filter.specs.declared.Kind.TheVariants as K
use Rattle.filter.specs.Signature.{signature_of}
use Rattle.filter.specs.Checks.{merges?}
use Rattle.text_field.specs.Words.{bytes}
use Rattle.text_field.specs.Field.{same, given?}
use Rattle.text_step.specs.Fields.{byte_field, flood_byte}
use Rattle.text_step.specs.Spaces.{space?}
use Rattle.text_step.specs.Transfers.{transfers_of, words?}
use Rattle.text_step.specs.Convolutions.{convolution_of, kernel?}

abbrev pub operator_word : Operator → List ℕ
operator_word O.Over = bytes "over"
operator_word O.In = bytes "in"
operator_word O.Out = bytes "out"
operator_word O.Atop = bytes "atop"
operator_word O.Xor = bytes "xor"

abbrev pub map_word : Map → List ℕ
map_word Map.Matrix = bytes "matrix"
map_word Map.Saturate = bytes "saturate"
map_word Map.Luminance = bytes "lumalpha"
map_word (Map.Curve t) = bytes "curve"

abbrev pub pair_word : Pair → List ℕ
pair_word (Pair.Operator o) = operator_word o
pair_word Pair.Arithmetic = bytes "arith"

abbrev pub pass_word : Pass → List ℕ
pass_word Pass.Blur = bytes "blur"
pass_word Pass.Erode = bytes "erode"
pass_word Pass.Dilate = bytes "dilate"

-- "Kinds: `flood offset blur erode dilate matrix saturate lumalpha curve over in out atop xor arith merge conv`"
abbrev pub kind_word : Kind → List ℕ
kind_word (K.Flood r g b) = bytes "flood"
kind_word K.Offset = bytes "offset"
kind_word (K.Pass p) = pass_word p
kind_word (K.Map m) = map_word m
kind_word (K.Pair p) = pair_word p
kind_word (K.Merge n) = bytes "merge"
kind_word (K.Convolve k) = bytes "conv"

-- the first of the kinds whose word is w
unfoldable pub first_kind : List ℕ → List Kind → Option Kind
first_kind w [] = None
first_kind w (k ∷ ks) = cond (same w (kind_word k)) (Some k) (first_kind w ks)

-- a merge's inputs are the fields after the region, without the last where that is a working space: no input is so called
unfoldable pub merge_inputs : List (List ℕ) → ℕ
merge_inputs fs = cond (space? (get_or fs (length fs - 1) [])) (length fs - 6) (length fs - 5)

-- all kinds, with what a line says beside its word, inputs and numbers: a flood's bytes, a curve's transfers, how many inputs a merge has, a convolution
abbrev pub kinds : List (List ℕ) → List Kind
kinds fs =
    K.Flood (flood_byte fs 5) (flood_byte fs 6) (flood_byte fs 7) ∷ K.Offset ∷ K.Pass Pass.Blur ∷ K.Pass Pass.Erode ∷ K.Pass Pass.Dilate
    ∷ K.Map Map.Matrix ∷ K.Map Map.Saturate ∷ K.Map Map.Luminance ∷ K.Map (Map.Curve (transfers_of fs))
    ∷ K.Pair (Pair.Operator O.Over) ∷ K.Pair (Pair.Operator O.In) ∷ K.Pair (Pair.Operator O.Out) ∷ K.Pair (Pair.Operator O.Atop)
    ∷ K.Pair (Pair.Operator O.Xor) ∷ K.Pair Pair.Arithmetic ∷ K.Merge (merge_inputs fs) ∷ K.Convolve (convolution_of fs) ∷ []

unfoldable pub kind_of : List (List ℕ) → Option Kind
kind_of fs = first_kind (get_or fs 0 []) (kinds fs)

-- "R, G, B bytes"
abbrev pub colour? : List (List ℕ) → Bool
colour? fs = given? (byte_field fs 5) && (given? (byte_field fs 6) && given? (byte_field fs 7))

abbrev pub map_details? : Map → List (List ℕ) → Bool
map_details? Map.Matrix fs = true
map_details? Map.Saturate fs = true
map_details? Map.Luminance fs = true
map_details? (Map.Curve t) fs = words? t fs

-- "a flood byte above 255 .. is 15", and so are a word that is none and a bad order
abbrev pub details? : Kind → List (List ℕ) → Bool
details? (K.Flood r g b) fs = colour? fs
details? K.Offset fs = true
details? (K.Pass p) fs = true
details? (K.Map m) fs = map_details? m fs
details? (K.Pair p) fs = true
details? (K.Merge n) fs = true
details? (K.Convolve k) fs = kernel? k fs

-- the kind of a line that says all it needs beside inputs and numbers
abbrev pub kind_in : List (List ℕ) → Option Kind
kind_in fs = option_and_then (λ k. cond (details? k fs) (Some k) None) (kind_of fs)

-- "Merge without 1 to 4 inputs is 15 here", and so is a table of 0 or more than 16 entries
abbrev pub sound? : Kind → List (List ℕ) → Bool
sound? k fs = merges? (signature_of k) && ((signature_of k).tables && details? k fs)
