-- What the tables hold that depend on no step. Assumes nothing.
use Rattle.std.specs.Prelude.{ℕ, ◌+◌, ◌*◌, ◌/◌, ◌<◌, ◌≡◌, cond, List, eqb, length, get_or}
use Rattle.std.specs.Int.{div_ceil}

-- n / a, rounded up, and 0 where a is 0
abbrev pub ceiling : ℕ → ℕ → ℕ
ceiling n a = cond (eqb a 0) 0 (div_ceil n a)

-- for every alpha a: 255 · 65,536 / a and (a ÷ 2) · 65,536 / a, rounded up
pub record UnpremultiplyTable (table : List ℕ) : Type 0 where
  pub long : length table ≡ 512
  pub scale : (a : ℕ) → a < 256 → get_or table a 0 ≡ ceiling 16711680 a
  pub half : (a : ℕ) → a < 256 → get_or table (a + 256) 0 ≡ ceiling (a / 2 * 65536) a

-- for every byte x of R, G and B its product with its weight in luminance; with B's what rounds
pub record LuminanceTable (table : List ℕ) : Type 0 where
  pub long : length table ≡ 768
  pub red : (x : ℕ) → x < 256 → get_or table x 0 ≡ 13926 * x
  pub green : (x : ℕ) → x < 256 → get_or table (x + 256) 0 ≡ 46884 * x
  pub blue : (x : ℕ) → x < 256 → get_or table (x + 512) 0 ≡ 4725 * x + 32768
