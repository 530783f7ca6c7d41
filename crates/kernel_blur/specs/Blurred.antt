-- What a blur leaves of the lines in a buffer. Assumes nothing.
use Rattle.std.specs.Prelude.{◌≡◌, List, ℕ, ◌*◌, ◌<◌, length, get_or}
use Rattle.window.specs.Store.{byte_at}
use Rattle.window.specs.Window.{column, passes}
use Rattle.window.specs.Ranges.{Outside}

-- A blur in one direction (RULES 5.4): the lines at b are the passes of a blur of d down the columns of the lines at a; the lines at a are used up,
-- and nothing else changes
pub record Blurred (d a b n count : ℕ) (s s' : List ℕ) : Type 0 where
  pub inside : (v i : ℕ) → v < count → i < n → byte_at s' b n v i ≡ passes count d (column s a n count i) v
  pub outside : (j : ℕ) → Outside a (count * n) j → Outside b (count * n) j → get_or s' j 0 ≡ get_or s j 0
  pub long : length s' ≡ length s
