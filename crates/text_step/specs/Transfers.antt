-- The transfers of a curve's line: "for R, G, B, A the kind's word, an entry count for tables, the numbers". Assumes nothing.
use Rattle.std.specs.Prelude.{Bool, cond, ◌&&◌, Option, Some, None, is_some, unwrap_or, List, [], ℕ, ◌+◌, get_or}
use Rattle.pixel.specs.declared.Transfer.{Transfer}
use Rattle.pixel.specs.declared.Transfer.TheVariants.{Identity, Table, Discrete, Linear}
use Rattle.pixel.specs.declared.Transfers.{Transfers}
use Rattle.filter.specs.Curves.{transfer_count}
use Rattle.text_field.specs.Words.{bytes}
use Rattle.text_field.specs.Field.{same}
use Rattle.text_step.specs.Fields.{whole_at}

-- the transfer whose word stands in field p, a table's count in the next; a count that is no whole field is as 0, which no table has
unfoldable pub transfer_in : List (List ℕ) → ℕ → Option Transfer
transfer_in fs p =
    cond (same (get_or fs p []) (bytes "identity")) (Some Identity)
    (cond (same (get_or fs p []) (bytes "table")) (Some (Table (whole_at fs (p + 1))))
    (cond (same (get_or fs p []) (bytes "discrete")) (Some (Discrete (whole_at fs (p + 1))))
    (cond (same (get_or fs p []) (bytes "linear")) (Some Linear)
    None)))

-- field p is one of the four words
abbrev pub word? : List (List ℕ) → ℕ → Bool
word? fs p = is_some (transfer_in fs p)

-- its transfer; of a field that is none of them, of which no curve is made, linear
abbrev pub transfer_at : List (List ℕ) → ℕ → Transfer
transfer_at fs p = unwrap_or (transfer_in fs p) Linear

-- the fields of a channel in front of its numbers, and all of them
abbrev pub head_of : Transfer → ℕ
head_of Identity = 1
head_of (Table n) = 2
head_of (Discrete n) = 2
head_of Linear = 1

abbrev pub transfer_fields : Transfer → ℕ
transfer_fields t = head_of t + transfer_count t

-- where the channels begin: R after the input, each other after the one before
abbrev pub red_from : ℕ
red_from = 6

abbrev pub green_from : Transfer → ℕ
green_from r = red_from + transfer_fields r

abbrev pub blue_from : Transfer → Transfer → ℕ
blue_from r g = green_from r + transfer_fields g

abbrev pub alpha_from : Transfer → Transfer → Transfer → ℕ
alpha_from r g b = blue_from r g + transfer_fields b

-- the transfers of a line
unfoldable pub transfers_of : List (List ℕ) → Transfers
transfers_of fs =
    let r : Transfer = transfer_at fs red_from in
    let g : Transfer = transfer_at fs (green_from r) in
    let b : Transfer = transfer_at fs (blue_from r g) in
    record { r = r; g = g; b = b; a = transfer_at fs (alpha_from r g b) }

-- each of them has one of the four words
abbrev pub words? : Transfers → List (List ℕ) → Bool
words? t fs = word? fs red_from && (word? fs (green_from t.r) && (word? fs (blue_from t.r t.g) && word? fs (alpha_from t.r t.g t.b)))

-- the transfers of a line, where each of them has its word
abbrev pub transfers_in : List (List ℕ) → Option Transfers
transfers_in fs = cond (words? (transfers_of fs) fs) (Some (transfers_of fs)) None
