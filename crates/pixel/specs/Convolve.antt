-- Convolution of a picture of w by h pixels, given by its pixel at each column and row; outside it is transparent black. Assumes nothing.
use Rattle.std.specs.Prelude.{ℕ, zero, suc, ◌+◌, ◌-◌, ◌*◌, ◌%◌, min, cond, leb, ℤ, pos, negsuc, ◌+ℤ◌, ◌*ℤ◌}
use Rattle.number.specs.Number.{value}
use Rattle.number.specs.declared.Fixed.{Fixed}
use Rattle.pixel.specs.declared.Pixel.{Pixel}
use Rattle.pixel.specs.declared.Edge as G
use Rattle.pixel.specs.declared.Edge.TheVariants.{Duplicate, Wrap, None}
use Rattle.pixel.specs.declared.Convolution.{Convolution}
use Rattle.pixel.specs.Alpha.{pixel, clear, premultiplied, unpremultiplied, lowered}
use Rattle.pixel.specs.Whole.{limited, nearest_up}

-- f 0 + .. + f (n - 1)
unfoldable pub sum : ℕ → (ℕ → ℤ) → ℤ
sum zero f = pos 0
sum (suc n) f = sum n f +ℤ f n

-- Of the numbers v the kernel's values come first, row by row; then the divisor, if one is given, and the bias.
abbrev pub cells : Convolution → ℕ
cells k = k.columns * k.rows

-- the value in a column of a row, in units
abbrev pub weight : Convolution → (ℕ → Fixed) → ℕ → ℕ → ℤ
weight k v column row = value (v (row * k.columns + column))

-- "the kernel's sum in units, or 65,536 units, which is 1, if that is 0"
abbrev pub or_one : ℤ → ℤ
or_one (pos zero) = pos 65536
or_one (pos (suc n)) = pos (suc n)
or_one (negsuc n) = negsuc n

unfoldable pub divisor_of : Convolution → (ℕ → Fixed) → ℤ
divisor_of k v = cond k.divided (value (v (cells k))) (or_one (sum (cells k) (λ i. value (v i))))

abbrev pub bias_of : Convolution → (ℕ → Fixed) → ℤ
bias_of k v = value (v (cond k.divided (cells k + 1) (cells k)))

-- the place i − t of a line of n places, by the edge mode: the nearest place of the line, the place round and round, or transparent black
unfoldable pub extended : G.Edge → ℕ → ℕ → (ℕ → Pixel) → ℕ → Pixel
extended Duplicate n t f i = f (min (i - t) (n - 1))
extended Wrap n t f i = f ((i + t * (n - 1)) % n)
extended None n t f i = cond (leb t i) (f (i - t)) clear

-- sum / divisor + bias · alpha, "worked exactly, rounded once, halves up, limited to 0..255": sum, divisor and bias are in units, so that the
-- fraction is one over 65,536 · divisor
unfoldable pub quotient : ℤ → ℤ → ℕ → ℤ → ℕ
quotient s bias alpha divisor = limited (nearest_up (pos 65536 *ℤ s +ℤ bias *ℤ pos alpha *ℤ divisor) (pos 65536 *ℤ divisor))

module _ (w h : ℕ) (k : Convolution) (v : ℕ → Fixed) (f : ℕ → ℕ → Pixel) (x y : ℕ) where
  -- the input at column x − target + j of row y − target + i
  unfoldable pub neighbour : ℕ → ℕ → Pixel
  neighbour j i = extended k.edge h k.row (λ q. extended k.edge w k.column (λ p. f p q) (x + j)) (y + i)

  -- "The kernel is turned half round": with neighbour j, i goes its value in column columns − 1 − j of row rows − 1 − i
  unfoldable pub weighed : (Pixel → ℕ) → ℤ
  weighed channel =
      sum k.rows λ i. sum k.columns λ j. weight k v (k.columns - 1 - j) (k.rows - 1 - i) *ℤ pos (channel (neighbour j i))

  -- "the bias, for alpha too, is multiplied by the input's alpha at the result's own place"
  abbrev pub channel_sum : (Pixel → ℕ) → ℕ
  channel_sum channel = quotient (weighed channel) (bias_of k v) (f x y).a (divisor_of k v)

  -- "then colours are lowered to alpha"
  abbrev pub free : Pixel
  free = lowered (pixel (channel_sum (λ p. p.r)) (channel_sum (λ p. p.g)) (channel_sum (λ p. p.b)) (channel_sum (λ p. p.a)))

  -- "With preserve-alpha the colours are unpremultiplied first, alpha is kept, and they are premultiplied by it."
  abbrev pub kept : (Pixel → ℕ) → ℕ
  kept colour = premultiplied (channel_sum (λ p. unpremultiplied (colour p) p.a)) (f x y).a

  abbrev pub preserved : Pixel
  preserved = pixel (kept (λ p. p.r)) (kept (λ p. p.g)) (kept (λ p. p.b)) (f x y).a

  unfoldable pub convolved : Pixel
  convolved = cond k.preserve preserved free
