-- A rule for lines, along the rows and along the columns of a picture. Only the code needs these definitions: no promise to a
-- caller cites them. Assumes nothing.
use Rattle.std.specs.Prelude.{ℕ, ◌+◌, ◌-◌, ◌<◌, ◌≡◌, List, length}
use Rattle.window.specs.Store.{byte_at}
use Rattle.window.specs.Window.{column}
use Rattle.pixel.specs.declared.Pixel.{Pixel}
use Rattle.pixel.specs.Alpha.{pixel}
use Rattle.pixel.specs.Bytes.{Painted}
use Rattle.filter.specs.Picture.{Picture, each}

-- what a line of n places becomes
abbrev pub Rule : Type 0
Rule = ℕ → (ℕ → ℕ) → ℕ → ℕ

-- the rule along each row of w places, and along each column of h places, of each channel
unfoldable pub across_of : Rule → ℕ → Picture → Picture
across_of rule w p = each (λ q x y. rule w (λ u. q u y) x) p

unfoldable pub down_of : Rule → ℕ → Picture → Picture
down_of rule h p = each (λ q x y. rule h (λ v. q x v) y) p

-- the rule along a row of count pixels that stands at the start of d: channel c of pixel x, and the pixel
abbrev pub along_channel : Rule → List ℕ → ℕ → ℕ → ℕ → ℕ
along_channel rule d count x c = rule count (column d 0 4 count c) x

unfoldable pub along_row : Rule → List ℕ → ℕ → ℕ → Pixel
along_row rule d count x =
    pixel (along_channel rule d count x 0) (along_channel rule d count x 1) (along_channel rule d count x 2) (along_channel rule d count x 3)

-- width of these pixels, from x = skip on, are now the pixels of dst from `at` on
abbrev pub RowWorked : Rule → List ℕ → ℕ → ℕ → ℕ → ℕ → List ℕ → List ℕ → Type 0
RowWorked rule d count skip at width dst dst' = Painted (λ j. along_row rule d count (skip + (j - at))) 0 at (at + width) dst dst'

-- the lines at r of d' are those at the start of d, worked by the rule along their columns
pub record Worked (rule : Rule) (r n count : ℕ) (d d' : List ℕ) : Type 0 where
  pub inside : (v i : ℕ) → v < count → i < n → byte_at d' r n v i ≡ rule count (column d 0 n count i) v
  pub long : length d' ≡ length d
