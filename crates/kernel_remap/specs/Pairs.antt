-- The table of the conversion to a space: what becomes of every colour at every alpha. Assumes nothing.
use Rattle.std.specs.Prelude.{ℕ, ◌+◌, ◌*◌, ◌<◌, ◌≡◌, List, length, get_or}
use Rattle.pixel.specs.declared.Space.{Space}
use Rattle.pixel.specs.Convert.{pair_of}

-- the converted colour c at the alpha a
pub record Pairs (to : Space) (table : List ℕ) : Type 0 where
  pub long : length table ≡ 65536
  pub entry : (a c : ℕ) → a < 256 → c < 256 → get_or table (256 * a + c) 0 ≡ pair_of to c a
