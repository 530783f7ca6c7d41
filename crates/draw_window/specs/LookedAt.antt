-- How much of a line is looked at. Only the code needs this definition: no promise to a caller cites it. Assumes nothing.
use Rattle.std.specs.Prelude.{ℕ, ◌+◌, ◌-◌, min, ◌≡◌}

-- the places lo .. hi - 1 of a line of n places are all that from .. to - 1 look at, `back` before them and `ahead` behind
pub record LookedAt (n from to back ahead lo hi : ℕ) : Type 0 where
  pub low : lo ≡ from - back
  pub high : hi ≡ min n (to + ahead)
