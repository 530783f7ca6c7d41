-- Work that goes back and forth between two ranges of one buffer: what it asks, and what it leaves. Assumes nothing.
use Rattle.std.specs.Prelude.{ℕ, ◌+◌, ◌*◌, ◌≤◌, ◌<◌, ◌≡◌, ◌⊎◌, List, length, get_or}
use Rattle.window.specs.Ranges.{Outside, Apart}
use Rattle.window.specs.Store.{byte_at}

-- count lines of n bytes at a and at b lie in d, apart from each other, and windows over them are not too long
abbrev pub Windowed : ℕ → ℕ → ℕ → ℕ → ℕ → ℕ → List ℕ → Type 0
Windowed a b n count back ahead d =
    (a + count * n ≤ length d) × (b + count * n ≤ length d) × Apart a (count * n) b (count * n) × (0 < count) × (back ≤ 64) × (ahead ≤ 64)

-- f v i stands as byte i of line v, for count lines of n bytes from the index r on, which is a or b; the count lines at the other
-- of the two may hold anything, and every other byte of d' is that of d
pub record PingPong (f : ℕ → ℕ → ℕ) (a b n count r : ℕ) (d d' : List ℕ) : Type 0 where
  pub place : (r ≡ a) ⊎ (r ≡ b)
  pub inside : (v i : ℕ) → v < count → i < n → byte_at d' r n v i ≡ f v i
  pub outside : (j : ℕ) → Outside a (count * n) j → Outside b (count * n) j → get_or d' j 0 ≡ get_or d j 0
  pub long : length d' ≡ length d
