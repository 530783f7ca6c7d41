-- What a convolution makes of lines: line i has in its place x + j the neighbour j, i of the result in column x. Assumes nothing.
use Rattle.std.specs.Prelude.{ℕ, ◌+◌, ◌-◌, ◌*◌, ◌/◌, ◌≤◌, ◌<◌, ◌≡◌, Bool, cond, List, ℤ, pos, ◌*ℤ◌, get_or}
use Rattle.number.specs.declared.Fixed.{Fixed}
use Rattle.pixel.specs.declared.Pixel.{Pixel}
use Rattle.pixel.specs.declared.Convolution.{Convolution}
use Rattle.pixel.specs.Alpha.{pixel, premultiplied, straight, lowered}
use Rattle.pixel.specs.Bytes.{pixel_at}
use Rattle.pixel.specs.Coefficient.{Allowed}
use Rattle.pixel.specs.Convolve.{sum, weight, divisor_of, bias_of, extended, quotient}
use Rattle.kernel_lines.specs.Lines.{line_bytes, line_byte}

-- value i, and 0 behind the last
abbrev pub value_at : List Fixed → ℕ → Fixed
value_at v i = get_or v i (record { above = 0; below = 0 })

-- a convolution that the checks let pass: orders of 1 to 5, the target inside, no value further from zero than 256, and a divisor
pub record Convolves (k : Convolution) (v : List Fixed) : Type 0 where
  pub some_columns : 0 < k.columns
  pub few_columns : k.columns ≤ 5
  pub some_rows : 0 < k.rows
  pub few_rows : k.rows ≤ 5
  pub column_inside : k.column < k.columns
  pub row_inside : k.row < k.rows
  pub allowed : (i : ℕ) → i < 64 → Allowed (value_at v i)
  pub divides : ¬ (divisor_of k (value_at v) ≡ pos 0)

-- the kernel, turned half round, over byte b of each line and those four by four behind it
unfoldable pub lane_sum : Convolution → List Fixed → List ℕ → ℕ → ℤ
lane_sum k v lines b =
    sum k.rows λ i. sum k.columns λ j. weight k (value_at v) (k.columns - 1 - j) (k.rows - 1 - i) *ℤ pos (line_byte lines i (b + 4 * j))

-- the input's alpha at the result's own place, column x
abbrev pub own_alpha : Convolution → List ℕ → ℕ → ℕ
own_alpha k lines x = line_byte lines k.row (4 * (x + k.column) + 3)

-- byte b of the result's row, before colours are lowered or premultiplied
unfoldable pub lane_byte : Convolution → List Fixed → List ℕ → ℕ → ℕ
lane_byte k v lines b = quotient (lane_sum k v lines b) (bias_of k (value_at v)) (own_alpha k lines (b / 4)) (divisor_of k (value_at v))

abbrev pub lane_pixel : Convolution → List Fixed → List ℕ → ℕ → Pixel
lane_pixel k v lines x = pixel (lane_byte k v lines (4 * x)) (lane_byte k v lines (4 * x + 1)) (lane_byte k v lines (4 * x + 2)) (lane_byte k v lines (4 * x + 3))

-- colours premultiplied by an alpha that is kept
abbrev pub kept_by : ℕ → Pixel → Pixel
kept_by a p = pixel (premultiplied p.r a) (premultiplied p.g a) (premultiplied p.b a) a

-- the result in column x
unfoldable pub line_pixel : Convolution → List Fixed → List ℕ → ℕ → Pixel
line_pixel k v lines x = cond k.preserve (kept_by (own_alpha k lines x) (lane_pixel k v lines x)) (lowered (lane_pixel k v lines x))

-- a pixel as a convolution reads it: unpremultiplied where alpha is preserved
abbrev pub as_read : Bool → Pixel → Pixel
as_read b p = cond b (straight p) p

-- the lines of the results in row y of a picture of w by h
pub record LinesOf (w h : ℕ) (k : Convolution) (g : ℕ → ℕ → Pixel) (y : ℕ) (lines : List ℕ) : Type 0 where
  pub held : (i m : ℕ) → i < k.rows → m < w + k.columns - 1
      → pixel_at lines (i * line_bytes + 4 * m)
      ≡ extended k.edge h k.row (λ q. extended k.edge w k.column (λ p. as_read k.preserve (g p q)) m) (y + i)
