-- Sums of sums: what is added apart, padded with nothing, and bounded. Assumes nothing.
use Prim.Native.Nat.{ℕ, zero, suc, ◌+◌, ◌*◌, ◌/◌, ◌%◌, ◌≤◌, ◌<◌}
use mathlib.Core.Path.{◌≡◌, refl, ◌∙◌, ap₂}
use mathlib.Core.Logic.{⊎_elim}
use native.Mathlib.Nat.{mul-add, mul-zero}
use native.Mathlib.Omega.{arith}
use lib.IntN.{ℤ, pos, ◌+ℤ◌, +ℤ_idr}
use Rattle.window.specs.Window.{fold}
use Rattle.window.proofs.Store.{lt-or-le}
use Rattle.pixel.specs.Convolve.{sum}
use Rattle.pixel.proofs.SignedSums.{Diff, diff-add}

abbrev pub nest : ℕ → (ℕ → ℕ → ℕ) → ℕ
nest n f = fold ◌+◌ 0 n (λ i. fold ◌+◌ 0 n (f i))

pub fold_same : (n : ℕ) (f g : ℕ → ℕ) → ((i : ℕ) → i < n → f i ≡ g i) → fold ◌+◌ 0 n f ≡ fold ◌+◌ 0 n g
unfolding fold
fold_same zero f g h = refl
fold_same (suc n) f g h = ap₂ (λ (x y : ℕ). x + y) (fold_same n f g (λ i l. h i (omega arith))) (h n (omega arith))

pub fold-plus : (n : ℕ) (f g : ℕ → ℕ) → fold ◌+◌ 0 n (λ i. f i + g i) ≡ fold ◌+◌ 0 n f + fold ◌+◌ 0 n g
unfolding fold
fold-plus zero f g = refl
fold-plus (suc n) f g = omega (arith, fold-plus n f g)

pub fold-times : (n c : ℕ) (f : ℕ → ℕ) → fold ◌+◌ 0 n (λ i. c * f i) ≡ c * fold ◌+◌ 0 n f
unfolding fold
fold-times zero c f = omega (arith, mul-zero c)
fold-times (suc n) c f = omega (arith, fold-times n c f, mul-add c (fold ◌+◌ 0 n f) (f n))

pub fold-most : (n : ℕ) (f g : ℕ → ℕ) → ((i : ℕ) → i < n → f i ≤ g i) → fold ◌+◌ 0 n f ≤ fold ◌+◌ 0 n g
unfolding fold
fold-most zero f g h = omega arith
fold-most (suc n) f g h = omega (arith, fold-most n f g (λ i l. h i (omega arith)), h n (omega arith))

-- what is nothing behind the first m
pub fold-pad : (m n : ℕ) (f : ℕ → ℕ) → m ≤ n → ((i : ℕ) → m ≤ i → i < n → f i ≡ 0) → fold ◌+◌ 0 n f ≡ fold ◌+◌ 0 m f
unfolding fold
fold-pad m zero f l h = let e : m ≡ 0 = omega arith in rw e refl
fold-pad m (suc n) f l h = ⊎_elim
    (λ (g : m < suc n). omega (arith, fold-pad m n f (omega arith) (λ i a b. h i a (omega arith)), h n (omega arith) (omega arith)))
    (λ (g : suc n ≤ m). let e : m ≡ suc n = omega arith in rw e refl)
    (lt-or-le m (suc n))

pub sum-pad : (m n : ℕ) (f : ℕ → ℤ) → m ≤ n → ((i : ℕ) → m ≤ i → i < n → f i ≡ pos 0) → sum n f ≡ sum m f
unfolding sum
sum-pad m zero f l h = let e : m ≡ 0 = omega arith in rw e refl
sum-pad m (suc n) f l h = ⊎_elim
    (λ (g : m < suc n). ap₂ ◌+ℤ◌ (sum-pad m n f (omega arith) (λ i a b. h i a (omega arith))) (h n (omega arith) (omega arith)) ∙ +ℤ_idr (sum m f))
    (λ (g : suc n ≤ m). let e : m ≡ suc n = omega arith in rw e refl)
    (lt-or-le m (suc n))

pub sum-diff : (n : ℕ) (f : ℕ → ℤ) (a b : ℕ → ℕ) → ((i : ℕ) → i < n → Diff (f i) (a i) (b i)) → Diff (sum n f) (fold ◌+◌ 0 n a) (fold ◌+◌ 0 n b)
unfolding sum fold
sum-diff zero f a b h = record { same = refl }
sum-diff (suc n) f a b h = diff-add (sum-diff n f a b (λ i l. h i (omega arith))) (h n (omega arith))

-- the same for sums of sums
module _ (n : ℕ) where
  pub nest-same : (f g : ℕ → ℕ → ℕ) → ((i j : ℕ) → i < n → j < n → f i j ≡ g i j) → nest n f ≡ nest n g
  nest-same f g h = fold_same n (λ i. fold ◌+◌ 0 n (f i)) (λ i. fold ◌+◌ 0 n (g i)) (λ i l. fold_same n (f i) (g i) (λ j k. h i j l k))

  pub nest-plus : (f g : ℕ → ℕ → ℕ) → nest n (λ i j. f i j + g i j) ≡ nest n f + nest n g
  nest-plus f g =
      fold_same n (λ i. fold ◌+◌ 0 n (λ j. f i j + g i j)) (λ i. fold ◌+◌ 0 n (f i) + fold ◌+◌ 0 n (g i)) (λ i l. fold-plus n (f i) (g i))
      ∙ fold-plus n (λ i. fold ◌+◌ 0 n (f i)) (λ i. fold ◌+◌ 0 n (g i))

  pub nest-times : (c : ℕ) (f : ℕ → ℕ → ℕ) → nest n (λ i j. c * f i j) ≡ c * nest n f
  nest-times c f =
      fold_same n (λ i. fold ◌+◌ 0 n (λ j. c * f i j)) (λ i. c * fold ◌+◌ 0 n (f i)) (λ i l. fold-times n c (f i))
      ∙ fold-times n c (λ i. fold ◌+◌ 0 n (f i))

  pub nest-most : (f g : ℕ → ℕ → ℕ) → ((i j : ℕ) → i < n → j < n → f i j ≤ g i j) → nest n f ≤ nest n g
  nest-most f g h = fold-most n (λ i. fold ◌+◌ 0 n (f i)) (λ i. fold ◌+◌ 0 n (g i)) (λ i l. fold-most n (f i) (g i) (λ j k. h i j l k))

  pub nest-diff : (f : ℕ → ℕ → ℤ) (a b : ℕ → ℕ → ℕ) → ((i j : ℕ) → i < n → j < n → Diff (f i j) (a i j) (b i j))
      → Diff (sum n (λ i. sum n (f i))) (nest n a) (nest n b)
  nest-diff f a b h =
      sum-diff n (λ i. sum n (f i)) (λ i. fold ◌+◌ 0 n (a i)) (λ i. fold ◌+◌ 0 n (b i)) (λ i l. sum-diff n (f i) (a i) (b i) (λ j k. h i j l k))

pub fold-zero : (n : ℕ) (f : ℕ → ℕ) → ((i : ℕ) → i < n → f i ≡ 0) → fold ◌+◌ 0 n f ≡ 0
unfolding fold
fold-zero zero f h = refl
fold-zero (suc n) f h = omega (arith, fold-zero n f (λ i l. h i (omega arith)), h n (omega arith))

-- what is nothing outside the first m rows and columns
pub nest-pad : (m n : ℕ) (f : ℕ → ℕ → ℕ) → m ≤ n → ((i j : ℕ) → m ≤ i → f i j ≡ 0) → ((i j : ℕ) → m ≤ j → f i j ≡ 0) → nest n f ≡ nest m f
nest-pad m n f l hi hj =
    fold_same n (λ i. fold ◌+◌ 0 n (f i)) (λ i. fold ◌+◌ 0 m (f i)) (λ i k. fold-pad m n (f i) l (λ j a b. hj i j a))
    ∙ fold-pad m n (λ i. fold ◌+◌ 0 m (f i)) l (λ i a b. fold-zero m (f i) (λ j k. hi i j a))

-- rows of five, one after another
pub nest-flat : (f : ℕ → ℕ → ℕ) → fold ◌+◌ 0 25 (λ t. f (t / 5) (t % 5)) ≡ nest 5 f
unfolding fold
nest-flat f = omega arith
