-- What the table holds that a step's numbers are turned into before its rows are worked, and what a row holds. Assumes nothing.
use Rattle.std.specs.Prelude.{ℕ, ◌+◌, ◌*◌, ◌<◌, ◌≡◌, List, length, get_or}
use Rattle.pixel.specs.declared.Arithmetic.{Arithmetic}
use Rattle.pixel.specs.declared.Pixel.{Pixel}
use Rattle.pixel.specs.Arithmetic.{channel_of, by_arithmetic}
use Rattle.pixel.specs.Bytes.{pixel_at}

-- a channel of the arithmetic composite for every byte x of A and y of B
pub record ArithmeticTable (k : Arithmetic) (table : List ℕ) : Type 0 where
  pub long : length table ≡ 65536
  pub entry : (x y : ℕ) → x < 256 → y < 256 → get_or table (256 * x + y) 0 ≡ channel_of k x y

-- pixel x of the arithmetic composite of the rows a and b
abbrev pub arithmetic_at : Arithmetic → List ℕ → List ℕ → ℕ → Pixel
arithmetic_at k a b x = by_arithmetic k (pixel_at a (4 * x)) (pixel_at b (4 * x))
