-- The running sums of a box pass, which only the code needs: no promise to a caller cites them. Assumes nothing.
use Rattle.std.specs.Prelude.{◌≡◌, List, ℕ, ◌+◌, ◌-◌, ◌*◌, ◌/◌, ◌≤◌, ◌<◌, get_or}
use Rattle.window.specs.Window.{fold, behind, column}
use Rattle.kernel_sums.specs.declared.running.BoxPass.{BoxPass}

-- the sum over the window that the pass holds before it comes to place y: y - back - 1 .. y + ahead - 1
unfoldable pub running : ℕ → ℕ → (ℕ → ℕ) → ℕ → ℕ
running back ahead f y = fold ◌+◌ 0 (back + ahead + 1) (λ t. behind (back + 1) f (y + t))

-- the same with half of the window's size added, so that a division rounds
abbrev pub rounded : ℕ → ℕ → (ℕ → ℕ) → ℕ → ℕ
rounded back ahead f y = (back + ahead + 1) / 2 + running back ahead f y

-- the columns that the pass reads
abbrev pub columns : BoxPass → List ℕ → ℕ → ℕ → ℕ
columns p d = column d p.from p.n p.count

-- s holds the sums of each column before line y
abbrev pub Sums : BoxPass → List ℕ → ℕ → List ℕ → Type 0
Sums p d y s = (i : ℕ) → i < p.n → get_or s i 0 ≡ rounded p.back p.ahead (columns p d i) y

-- the sums in s without the line behind the window at y
abbrev pub without : BoxPass → List ℕ → ℕ → List ℕ → ℕ → ℕ
without p d y s i = get_or s i 0 - behind (p.back + 1) (columns p d i) y

-- sum i of s with the byte at p + i of d, without the byte at q + i
abbrev pub slid : List ℕ → List ℕ → ℕ → ℕ → ℕ → ℕ
slid s d p q i = get_or s i 0 + get_or d (p + i) 0 - get_or d (q + i) 0

-- that of n sums can be worked in 16 bits and divided by size
abbrev pub Slides : List ℕ → List ℕ → ℕ → ℕ → ℕ → ℕ → Type 0
Slides s d p q n size = (i : ℕ) → i < n
    → (get_or s i 0 < 65280) × (get_or d (q + i) 0 ≤ get_or s i 0 + get_or d (p + i) 0) × (slid s d p q i ≤ 255 * size + size / 2)
