-- How windows grow. Only the code needs these definitions: no promise to a caller cites them. Assumes nothing.
use Rattle.std.specs.Prelude.{List, ℕ, ◌+◌, ◌-◌, ◌*◌, ◌≤◌, ◌<◌, min, ◌≡◌, length, get_or, cond, ltb, leb}
use Rattle.window.specs.Window.{fold}
use Rattle.window.specs.Store.{byte_at}
use Rattle.kernel_fold.specs.declared.Extreme.{Extreme}
use Rattle.kernel_fold.specs.declared.Extreme.TheVariants.{Least, Largest}
use Rattle.kernel_fold.specs.declared.between.Reach.{Reach}
use Rattle.kernel_fold.specs.Operation.{operation}
use Rattle.kernel_morph.specs.Extremes.{neutral}
use Rattle.window.specs.Ranges.{Outside}

-- the places x - back .. x + ahead that lie among the first count, put together
unfoldable pub cut : (ℕ → ℕ → ℕ) → ℕ → ℕ → ℕ → ℕ → (ℕ → ℕ) → ℕ → ℕ
cut op e back ahead count f x = fold op e (min count (x + ahead + 1) - (x - back)) (λ t. f (x - back + t))

-- x, but 0 where the window of the least leaves the count lines
unfoldable pub edged : Extreme → ℕ → ℕ → ℕ → ℕ → ℕ → ℕ
edged Least back ahead count v x = cond (leb back v) (cond (ltb (v + ahead) count) x 0) 0
edged Largest back ahead count v x = x

-- the same of byte i of line v of the count lines at o in d
unfoldable pub edged_line : Extreme → ℕ → ℕ → List ℕ → ℕ → ℕ → ℕ → ℕ → ℕ → ℕ
unfolding edged
edged_line op back ahead d o n count v i = edged op back ahead count v (byte_at d o n v i)

-- byte i of the count lines at a in d, over the cut window of line v
abbrev pub windows : Extreme → List ℕ → ℕ → ℕ → ℕ → ℕ → ℕ → ℕ → ℕ → ℕ
windows op d a n count back ahead v i = cut (operation op) (neutral op) back ahead count (λ w. byte_at d a n w i) v

-- each line at o holds the windows of f that reach p back and q ahead
abbrev pub HoldsWindows : Extreme → (ℕ → ℕ → ℕ) → ℕ → ℕ → ℕ → ℕ → ℕ → List ℕ → Type 0
HoldsWindows op f p q o n count d = (v i : ℕ) → v < count → i < n → byte_at d o n v i ≡ cut (operation op) (neutral op) p q count (λ w. f w i) v

-- windows of any lines that reach p back and q ahead have become windows that reach p' and q', at `to`; all other bytes are as before
pub record Widened (op : Extreme) (p q p' q' from to n count : ℕ) (d d' : List ℕ) : Type 0 where
  pub holds : (f : ℕ → ℕ → ℕ) → HoldsWindows op f p q from n count d → HoldsWindows op f p' q' to n count d'
  pub off : (j : ℕ) → Outside to (count * n) j → get_or d' j 0 ≡ get_or d j 0
  pub long : length d' ≡ length d

-- windows that reach to `now` are on the way to `whole`
abbrev pub Growing : Reach → Reach → Type 0
Growing now whole = (now.back ≤ whole.back) × (now.ahead ≤ whole.ahead) × (whole.back ≤ 64) × (whole.ahead ≤ 64)

-- a reach of p' and q' on the way from p and q to back and ahead
pub record Towards (p q back ahead p' q' : ℕ) : Type 0 where
  pub low : p' ≤ back
  pub high : q' ≤ ahead
  pub more : p + q < back + ahead → p + q < p' + q'

-- the same, on each side by no more than the window reaches there, nor the lines
pub record Sides (p q back ahead p' q' : ℕ) : Type 0 where
  pub towards : Towards p q back ahead p' q'
  pub from_back : p ≤ p'
  pub from_ahead : q ≤ q'
  pub near : p' ≤ p + p + 1
  pub far : q' ≤ q + q + 1
  pub half_back : p' + p' ≤ p + p + back + 1
  pub half_ahead : q' + q' ≤ q + q + ahead + 1

-- the same, by no more than two windows of p and q can cover
pub record Stretch (p q back ahead p' q' : ℕ) : Type 0 where
  pub sides : Sides p q back ahead p' q'
  pub both : p' + q' ≤ p + q + (p + q) + 1
