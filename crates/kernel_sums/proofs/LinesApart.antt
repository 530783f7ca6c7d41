-- Laws of lines in a buffer: their columns, one line more, and lines that lie apart. Assumes nothing.
use mathlib.Core.Path.{◌≡◌, ap, ◌∙◌}
use mathlib.Core.List.{List}
use mathlib.Core.Logic.{inl, inr, ⊎_elim}
use Prim.Native.Nat.{ℕ, ◌+◌, ◌-◌, ◌*◌, ◌≤◌, ◌<◌}
use native.Mathlib.Omega.{arith}
use lib.ListN.{length, get_or, set}
use Rattle.window.specs.Ranges.{Apart}
use Rattle.window.specs.Store.{Filled, Lined, byte_at}
use Rattle.window.specs.Window.{within, column}
use Rattle.window.proofs.Numbers.{line-end}
use Rattle.window.proofs.Store.{lt-or-le, filled_more}
use Rattle.window.proofs.BandedPasses.{within_in, within-out, within_same, column-is}

module _ (d : List ℕ) (o n count i : ℕ) where
  pub column-in : (v : ℕ) → v < count → column d o n count i v ≡ byte_at d o n v i
  unfolding column
  column-in v h = within_in count (λ v. byte_at d o n v i) v h

  pub column-out : (v : ℕ) → count ≤ v → column d o n count i v ≡ 0
  unfolding column
  column-out v h = within-out count (λ v. byte_at d o n v i) v h

  pub column-lt : ((j : ℕ) → get_or d j 0 < 256) → (v : ℕ) → column d o n count i v < 256
  column-lt h v = ⊎_elim
      (λ l. omega (arith, column-in v l, h (o + v * n + i)))
      (λ l. omega (arith, column-out v l))
      (lt-or-le v count)

-- one byte of a line more
pub line-more : (f : ℕ → ℕ) (r i v : ℕ) (d d' : List ℕ) → r + i < length d → v ≡ f i → Filled (λ j. f (j - r)) r (r + i) d d' → Filled (λ j. f (j - r)) r (r + (i + 1)) d (set d' (r + i) v)
line-more f r i v d d' h e F =
    let q : r + (i + 1) ≡ r + i + 1 = omega arith in
    rw q (filled_more (λ j. f (j - r)) r (r + i) v d d' (omega arith) h (e ∙ ap f (omega arith)) F)

-- the columns of lines that were stored
pub lined-column : (f : ℕ → ℕ → ℕ) (o n count : ℕ) (d d' : List ℕ) → Lined f o n count d d' → (i : ℕ) → i < n → column d' o n count i ≡ within count (λ v. f v i)
lined-column f o n count d d' L i l = column-is d' o n count i (λ v. f v i) (λ v h. L.inside v i h l)

-- what changes only places from lo up to hi, among the size from b on, leaves the places from a on
apart-kept : (size a b lo hi : ℕ) (d d' : List ℕ) → Apart a size b size → b ≤ lo → hi ≤ b + size
    → ((j : ℕ) → j < lo → get_or d' j 0 ≡ get_or d j 0) → ((j : ℕ) → hi ≤ j → get_or d' j 0 ≡ get_or d j 0)
    → (k : ℕ) → k < size → get_or d' (a + k) 0 ≡ get_or d (a + k) 0
apart-kept size a b lo hi d d' apart l l' before after k h = ⊎_elim
    (λ g. before (a + k) (omega arith))
    (λ g. after (a + k) (omega arith))
    apart

-- storing a line leaves one that lies apart
pub line-apart : (f : ℕ → ℕ) (p r m n : ℕ) (d d' : List ℕ) → Apart p n r n → m ≤ n → Filled f r (r + m) d d' → (k : ℕ) → k < n → get_or d' (p + k) 0 ≡ get_or d (p + k) 0
line-apart f p r m n d d' apart le F = apart-kept n p r r (r + m) d d' apart (omega arith) (omega arith) F.before F.after

-- the columns of lines that lie apart from what changes
pub kept-column : (from to n count lo hi : ℕ) (d d' : List ℕ) → Apart from (count * n) to (count * n) → to ≤ lo → hi ≤ to + count * n
    → ((j : ℕ) → j < lo → get_or d' j 0 ≡ get_or d j 0) → ((j : ℕ) → hi ≤ j → get_or d' j 0 ≡ get_or d j 0)
    → (i : ℕ) → i < n → column d' from n count i ≡ column d from n count i
unfolding column
kept-column from to n count lo hi d d' apart l l' before after i h = within_same count (λ v. byte_at d' from n v i) (λ v. byte_at d from n v i) (λ v k.
    let e : from + v * n + i ≡ from + (v * n + i) = omega arith in
    rw e (apart-kept (count * n) from to lo hi d d' apart l l' before after (v * n + i) (omega (arith, line-end n count v k))))

-- lines of the one kind lie apart from lines of the other
pub lines-apart : (size from to n count v y : ℕ) → size ≡ count * n → Apart from size to size → v < count → y < count → Apart (from + v * n) n (to + y * n) n
lines-apart size from to n count v y e apart hv hy = ⊎_elim
    (λ g. inl (omega (arith, line-end n count v hv)))
    (λ g. inr (omega (arith, line-end n count y hy)))
    apart
