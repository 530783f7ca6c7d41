-- Natural sums, row by row of a kernel or one tap after another. Assumes nothing.
use Rattle.std.proofs.Common.{ℕ, zero, suc, ◌+◌, ◌*◌, ◌<◌, ◌≡◌, refl, ap₂, ◌∙◌, arith}
use native.Mathlib.Nat.{mul-suc, mul-zero}
use Rattle.window.specs.Window.{fold}
use Rattle.kernel_taps.proofs.DoubleSums.{fold_same}

-- one more
pub fold-more : (n : ℕ) (f : ℕ → ℕ) → fold ◌+◌ 0 (n + 1) f ≡ fold ◌+◌ 0 n f + f n
unfolding fold
fold-more n f = let e : n + 1 ≡ suc n = omega arith in rw e refl

pub fold-none : (f : ℕ → ℕ) → fold ◌+◌ 0 0 f ≡ 0
unfolding fold
fold-none f = refl

fold-add : (m n : ℕ) (f : ℕ → ℕ) → fold ◌+◌ 0 m f + fold ◌+◌ 0 n (λ j. f (m + j)) ≡ fold ◌+◌ 0 (m + n) f
unfolding fold
fold-add m zero f = let e : m + 0 ≡ m = omega arith in rw e (omega arith)
fold-add m (suc n) f = let e : m + suc n ≡ suc (m + n) = omega arith in rw e (omega (arith, fold-add m n f))

pub fold-flat : (rows columns : ℕ) (g : ℕ → ℕ → ℕ) (h : ℕ → ℕ) → ((i j : ℕ) → i < rows → j < columns → g i j ≡ h (columns * i + j))
    → fold ◌+◌ 0 rows (λ i. fold ◌+◌ 0 columns (g i)) ≡ fold ◌+◌ 0 (columns * rows) h
unfolding fold
fold-flat zero columns g h e = rw (mul-zero columns) refl
fold-flat (suc n) columns g h e =
    rw (mul-suc columns n)
    (ap₂ ◌+◌ (fold-flat n columns g h (λ i j l m. e i j (omega arith) m)) (fold_same columns (g n) (λ j. h (columns * n + j)) (λ j l. e n j (omega arith) l))
    ∙ fold-add (columns * n) columns h)
