-- The sums of a lane, one weight or one line more at a time. Assumes nothing.
use Rattle.std.proofs.Common.{ℕ, ◌+◌, ◌*◌, ◌≤◌, ◌<◌, List, get_or, ◌≡◌, ap, ap₂, sym, refl, ◌∙◌, arith}
use native.Mathlib.Nat.{mul-le-mul}
use Rattle.window.specs.Window.{fold}
use Rattle.kernel_lines.specs.Lines.{line_bytes}
use Rattle.kernel_sums.proofs.SlidingSums.{fold_more}
use Rattle.kernel_taps.specs.Lanes.{row_total, total}

-- a weight by a byte
pub product_le : (w x : ℕ) → w < 65536 → x < 256 → w * x ≤ 16711425
product_le w x a b = mul-le-mul {n₁ = w} {m₁ = x} {n₂ = 65535} {m₂ = 255} (omega arith) (omega arith)

pub row-none : (w : List ℕ) (first : ℕ) (lines : List ℕ) (at : ℕ) → 0 ≡ row_total 0 w first lines at
unfolding row_total fold
row-none w first lines at = refl

pub row-more : (n s : ℕ) (w : List ℕ) (first : ℕ) (lines : List ℕ) (at : ℕ) → s ≡ row_total n w first lines at
    → s + get_or w (first + n) 0 * get_or lines (at + 4 * n) 0 ≡ row_total (n + 1) w first lines at
unfolding row_total
row-more n s w first lines at e =
    ap (λ (x : ℕ). x + get_or w (first + n) 0 * get_or lines (at + 4 * n) 0) e
    ∙ sym (fold_more (λ j. get_or w (first + j) 0 * get_or lines (at + 4 * j) 0) n)

-- the first m of the lines
abbrev pub lines_total : ℕ → ℕ → List ℕ → List ℕ → ℕ → ℕ
lines_total m n w lines at = fold ◌+◌ 0 m (λ i. row_total n w (5 * i) lines (at + i * line_bytes))

pub lines-none : (n : ℕ) (w lines : List ℕ) (at : ℕ) → 0 ≡ lines_total 0 n w lines at
unfolding fold
lines-none n w lines at = refl

pub lines-more : (m n s r : ℕ) (w lines : List ℕ) (at : ℕ) → s ≡ lines_total m n w lines at
    → r ≡ row_total n w (5 * m) lines (at + m * line_bytes) → s + r ≡ lines_total (m + 1) n w lines at
lines-more m n s r w lines at e h =
    ap₂ ◌+◌ e h ∙ sym (fold_more (λ i. row_total n w (5 * i) lines (at + i * line_bytes)) m)

pub lines-all : (n s : ℕ) (w lines : List ℕ) (at : ℕ) → s ≡ lines_total n n w lines at → s ≡ total n w lines at
unfolding total
lines-all n s w lines at e = e
