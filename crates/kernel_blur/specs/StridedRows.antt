-- Where lines lie in a buffer, and what stands outside of them. Assumes nothing.
use Rattle.std.specs.Prelude.{◌≡◌, List, ◌≢◌, ℕ, ◌+◌, ◌*◌, ◌<◌, length, get_or}
use Rattle.window.specs.Store.{byte_at}

-- d' is d with f v i stored as byte i of row v, for rows 0 up to rows of n bytes, where row v starts at base + v * stride
pub record Rows (f : ℕ → ℕ → ℕ) (base stride n rows : ℕ) (d d' : List ℕ) : Type 0 where
  pub inside : (v i : ℕ) → v < rows → i < n → byte_at d' base stride v i ≡ f v i
  pub outside : (j : ℕ) → ((v i : ℕ) → v < rows → i < n → j ≢ base + v * stride + i) → get_or d' j 0 ≡ get_or d j 0
  pub long : length d' ≡ length d
