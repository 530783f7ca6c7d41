-- Component transfer: a channel's map from byte to byte, worked exactly from units and rounded once, halves up. Assumes nothing.
use Rattle.std.specs.Prelude.{ℕ, ◌+◌, ◌-◌, ◌*◌, ◌/◌, ◌%◌, min, ℤ, pos, ◌+ℤ◌, ◌*ℤ◌}
use Rattle.number.specs.Number.{value}
use Rattle.number.specs.declared.Fixed.{Fixed}
use Rattle.pixel.specs.declared.Transfer as T
use Rattle.pixel.specs.declared.Transfer.TheVariants.{Identity, Table, Discrete, Linear}
use Rattle.pixel.specs.Whole.{◌÷◌, limited}

-- With n + 1 entries and k/n ≤ C < (k + 1)/n for C = c/255, the result is v k + (C − k/n)·n·(v (k + 1) − v k): k is c·n ÷ 255, t the rest of
-- that division, and so ((255 − t)·v k + t·v (k + 1)) / 255. At c = 255 the rest is 0 and k is n; a table of one entry is constant.
unfoldable pub table_channel : ℕ → (ℕ → ℕ) → ℕ → ℕ
table_channel n v c = min (((255 - c * n % 255) * v (c * n / 255) + c * n % 255 * v (c * n / 255 + 1) + 32768) / 65536) 255

-- With n entries: v k where k/n ≤ C < (k + 1)/n, and the last one for C = 1
unfoldable pub discrete_channel : ℕ → (ℕ → ℕ) → ℕ → ℕ
discrete_channel n v c = min ((255 * v (min (c * n / 255) (n - 1)) + 32768) / 65536) 255

-- slope·C + intercept
unfoldable pub linear_channel : ℤ → ℤ → ℕ → ℕ
linear_channel slope intercept c = limited ((slope *ℤ pos c +ℤ pos 255 *ℤ intercept +ℤ pos 32768) ÷ 65536)

-- a kind of transfer with its numbers in units
unfoldable pub transferred : T.Transfer → (ℕ → Fixed) → ℕ → ℕ
transferred Identity v c = c
transferred (Table n) v c = table_channel (n - 1) (λ i. (v i).above) c
transferred (Discrete n) v c = discrete_channel n (λ i. (v i).above) c
transferred Linear v c = linear_channel (value (v 0)) (value (v 1)) c
