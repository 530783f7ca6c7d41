-- The working space of a step's line: "an optional last field `srgb` or `linear`; absent now means linear". Assumes nothing.
use Rattle.std.specs.Prelude.{Bool, cond, ◌&&◌, ◌||◌, Option, Some, None, is_some, unwrap_or, List, [], ℕ, ◌+◌, eqb, length, get_or}
use Rattle.pixel.specs.declared.Space.{Space}
use Rattle.pixel.specs.declared.Space.TheVariants.{Srgb, Linear}
use Rattle.text_field.specs.Words.{bytes}
use Rattle.text_field.specs.Field.{same}

-- the space that a field says, which is one of the two words
unfoldable pub space_in : List ℕ → Option Space
space_in f = cond (same f (bytes "srgb")) (Some Srgb) (cond (same f (bytes "linear")) (Some Linear) None)

abbrev pub space? : List ℕ → Bool
space? f = is_some (space_in f)

-- the space that field i says; an absent field is an empty one here, and so linear
abbrev pub space_at : List (List ℕ) → ℕ → Space
space_at fs i = unwrap_or (space_in (get_or fs i [])) Linear

-- a line has n fields, or one more, which is a working space
abbrev pub closed? : ℕ → List (List ℕ) → Bool
closed? n fs = eqb (length fs) n || (eqb (length fs) (n + 1) && space? (get_or fs n []))
