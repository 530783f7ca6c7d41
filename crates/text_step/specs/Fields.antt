-- The fields of a line by position, as numbers. Assumes nothing.
use Rattle.std.specs.Prelude.{Option, List, [], ℕ, get_or}
use Rattle.text_field.specs.Field.{whole_of, byte_of, value_in}

-- field i as a whole field
abbrev pub whole_field : List (List ℕ) → ℕ → Option ℕ
whole_field fs i = whole_of (get_or fs i [])

abbrev pub whole_at : List (List ℕ) → ℕ → ℕ
whole_at fs i = value_in (whole_field fs i)

-- field i as a byte of a flood
abbrev pub byte_field : List (List ℕ) → ℕ → Option ℕ
byte_field fs i = byte_of (whole_field fs i)

abbrev pub flood_byte : List (List ℕ) → ℕ → ℕ
flood_byte fs i = value_in (byte_field fs i)
