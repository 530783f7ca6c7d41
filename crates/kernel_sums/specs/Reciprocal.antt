-- Division by a product with a reciprocal. Assumes nothing.
use Rattle.std.specs.Prelude.{◌≡◌, ℕ, ◌+◌, ◌-◌, ◌*◌, ◌/◌, ◌≤◌, ◌<◌, ◌^◌}

-- mul and shift divide by size: every sum of size bytes, with half of size added
pub record Divides (mul shift size : ℕ) : Type 0 where
  pub exact : (t : ℕ) → t ≤ 255 * size + size / 2 → t * mul / 65536 / 2 ^ shift ≡ t / size
  pub small : shift < 16
  pub some : 0 < size

-- a by size, rounded up
abbrev pub ceiling : ℕ → ℕ → ℕ
ceiling a size = (a + (size - 1)) / size

-- 2 ^ shift is the largest power of two below size
pub record LargestBelow (shift size : ℕ) : Type 0 where
  pub below : 2 ^ shift < size
  pub most : size ≤ 2 ^ shift * 2
