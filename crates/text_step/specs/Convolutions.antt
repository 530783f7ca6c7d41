-- The convolution of a line: input, orders, values, divisor, bias, target, preserve-alpha, edge mode; "an absent divisor as an empty field". Assumes nothing.
use Rattle.std.specs.Prelude.{Bool, true, false, cond, ◌&&◌, Option, Some, None, is_some, unwrap_or, List, [], ℕ, ◌+◌, ltb, length, get_or}
use Rattle.pixel.specs.declared.Edge.{Edge}
use Rattle.pixel.specs.declared.Edge.TheVariants as E
use Rattle.pixel.specs.declared.Convolution.{Convolution}
use Rattle.filter.specs.Convolutions.{orders?, values_in}
use Rattle.text_field.specs.Words.{bytes}
use Rattle.text_field.specs.Field.{same, given?}
use Rattle.text_step.specs.Fields.{whole_field, whole_at}

-- a field is not empty
abbrev pub filled? : List ℕ → Bool
filled? f = ltb 0 (length f)

-- "preserve-alpha (`true` or `false`)"
unfoldable pub truth_in : List ℕ → Option Bool
truth_in f = cond (same f (bytes "true")) (Some true) (cond (same f (bytes "false")) (Some false) None)

abbrev pub truth? : List ℕ → Bool
truth? f = is_some (truth_in f)

-- "the edge modes duplicate, wrap and none"
unfoldable pub edge_in : List ℕ → Option Edge
edge_in f = cond (same f (bytes "duplicate")) (Some E.Duplicate) (cond (same f (bytes "wrap")) (Some E.Wrap) (cond (same f (bytes "none")) (Some E.None) None))

abbrev pub edge? : List ℕ → Bool
edge? f = is_some (edge_in f)

abbrev pub edge_of : List ℕ → Edge
edge_of f = unwrap_or (edge_in f) E.None

-- the field of the divisor: behind input, orders and values
abbrev pub divisor_field : Convolution → ℕ
divisor_field k = 8 + values_in k

-- a convolution of these orders
abbrev pub ordered : ℕ → ℕ → Convolution
ordered columns rows = record { columns = columns; rows = rows; divided = false; column = 0; row = 0; preserve = false; edge = E.None }

-- what a line says whose divisor's field is d: bias and target, preserve-alpha and edge mode follow it; an order that is no whole field is as 0,
-- which no kernel has
abbrev pub convolution_at : List (List ℕ) → ℕ → Convolution
convolution_at fs d = record {
  columns = whole_at fs 6;
  rows = whole_at fs 7;
  divided = filled? (get_or fs d []);
  column = whole_at fs (d + 2);
  row = whole_at fs (d + 3);
  preserve = unwrap_or (truth_in (get_or fs (d + 4) [])) false;
  edge = edge_of (get_or fs (d + 5) []);
}

unfoldable pub convolution_of : List (List ℕ) → Convolution
convolution_of fs = convolution_at fs (divisor_field (ordered (whole_at fs 6) (whole_at fs 7)))

-- the fields behind the numbers are of the form
abbrev pub behind? : List (List ℕ) → ℕ → Bool
behind? fs d =
    given? (whole_field fs (d + 2))
    && (given? (whole_field fs (d + 3))
    && (truth? (get_or fs (d + 4) [])
    && edge? (get_or fs (d + 5) [])))

-- "a bad order (in text 15)"; a target of the form that is not inside the kernel is 17, and not this
abbrev pub kernel? : Convolution → List (List ℕ) → Bool
kernel? k fs = orders? k && behind? fs (divisor_field k)

-- the convolution of a line, where it is of the form
abbrev pub convolution_in : List (List ℕ) → Option Convolution
convolution_in fs = cond (kernel? (convolution_of fs) fs) (Some (convolution_of fs)) None
