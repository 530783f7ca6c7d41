-- The lines that are printed. Assumes nothing.
use Rattle.std.specs.Prelude.{List, [], ◌∷◌, ◌++◌, ℕ, zero, suc}
use Rattle.text_field.specs.Words.{bytes}
use Rattle.std.specs.List.{join_with_byte}
use Rattle.pixel.specs.declared.Pixel.{Pixel}
use Rattle.pixel.specs.declared.Space as S
use Rattle.pixel.specs.declared.Space.TheVariants.{Srgb}
use Rattle.pixel.specs.Convert.{converted}
use Rattle.filter.specs.Picture.{Picture}
use Rattle.filter.specs.Bytes.{concat}
use Rattle.text_print.specs.Digits.{decimal, hex_pixel}

-- `ok`, `refused`, `row`
abbrev pub ok_word : List ℕ
ok_word = bytes "ok"

abbrev pub refused_word : List ℕ
refused_word = bytes "refused"

abbrev pub row_word : List ℕ
row_word = bytes "row"

-- "fields parted by one tab, each line closed by a line feed"
unfoldable pub line : List (List ℕ) → List ℕ
line fs = join_with_byte 9 fs ++ (10 ∷ [])

-- f 0, .. , f (n - 1)
unfoldable pub field_list : (ℕ → List ℕ) → ℕ → List (List ℕ)
field_list f zero = []
field_list f (suc n) = field_list f n ++ (f n ∷ [])

-- w pixels: "row fields being pixels left to right"
unfoldable pub row_fields : ℕ → (ℕ → Pixel) → List (List ℕ)
row_fields w row = row_word ∷ field_list (λ x. hex_pixel (row x)) w

-- the rows of a picture, top to bottom
unfoldable pub row_lines : ℕ → ℕ → Picture → List ℕ
row_lines w h p = concat (λ y. line (row_fields w (λ x. p x y))) h

-- a picture that is kept in the space s, brought to sRGB
abbrev pub in_srgb : S.Space → Picture → Picture
in_srgb s p x y = converted s Srgb (p x y)

-- "It prints `ok` and the last layer as `row` lines"
unfoldable pub ok_text : ℕ → ℕ → Picture → List ℕ
ok_text w h p = line (ok_word ∷ []) ++ row_lines w h p

-- "or one line: `refused`, number, place, parted by tabs"
unfoldable pub refused_text : ℕ → ℕ → List ℕ
refused_text number place = line (refused_word ∷ decimal number ∷ decimal place ∷ [])
