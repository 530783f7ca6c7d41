-- Rows side by side in lines of 32 bytes: a line has a pixel of each of eight rows, its lanes. Only the code needs these definitions: no
-- promise to a caller cites them. Assumes nothing.
use Rattle.std.specs.Prelude.{ℕ, ◌+◌, ◌-◌, ◌*◌, ◌≤◌, ◌<◌, ◌≡◌, List, ◌≢◌, length, get_or}
use Rattle.pixel.specs.Bytes.{pixel_at}
use Rattle.filter.specs.Picture.{Picture}
use Rattle.draw_window.specs.declared.Span.{Span}

-- the lines from the index o on, of which the first stands for column lo, hold the columns from .. to - 1 of count rows from y on
pub record Lanes (p : Picture) (o lo from to y count : ℕ) (d : List ℕ) : Type 0 where
  pub same : (x k : ℕ) → from ≤ x → x < to → k < count → pixel_at d (o + (x - lo) * 32 + 4 * k) ≡ p x (y + k)

-- d' is d with the span's columns of count rows from y on, row y + k dealt to lane k of the lines at its start
pub record Dealt (p : Picture) (s : Span) (y count : ℕ) (d d' : List ℕ) : Type 0 where
  pub lanes : Lanes p 0 s.from s.from s.to y count d'
  pub outside : (j : ℕ) → ((v i : ℕ) → v < s.to - s.from → i < 4 * count → j ≢ v * 32 + i) → get_or d' j 0 ≡ get_or d j 0
  pub long : length d' ≡ length d

-- d' is d with count rows of width pixels from the pixel `at` on, row k being lane k of the lines of s from the index o on
pub record Gathered (s : List ℕ) (o at width count : ℕ) (d d' : List ℕ) : Type 0 where
  pub inside : (k j : ℕ) → k < count → j < width → pixel_at d' (4 * (at + k * width + j)) ≡ pixel_at s (o + j * 32 + 4 * k)
  pub before : (i : ℕ) → i < 4 * at → get_or d' i 0 ≡ get_or d i 0
  pub after : (i : ℕ) → 4 * (at + count * width) ≤ i → get_or d' i 0 ≡ get_or d i 0
  pub long : length d' ≡ length d
