-- The sum of a lane, over the kernel turned half round and padded with nothing. Assumes nothing.
use Prim.Native.Nat.{ℕ, ◌+◌, ◌-◌, ◌*◌, ◌≤◌, ◌<◌}
use mathlib.Core.Path.{◌≡◌, refl, sym, ◌∙◌, ap}
use mathlib.Core.Bool.{Bool, true, false, cond}
use mathlib.Core.List.{List}
use native.Mathlib.Nat.{zero-mul}
use native.Mathlib.Omega.{arith}
use lib.Dec.{leb}
use lib.IntN.{ℤ, pos, ◌*ℤ◌}
use borrow.Author.Tests.{le-leb, lt-leb}
use Rattle.number.specs.Number.{value}
use Rattle.number.specs.declared.Fixed.{Fixed}
use Rattle.pixel.specs.declared.Convolution.{Convolution}
use Rattle.pixel.specs.Convolve.{sum, weight}
use Rattle.pixel.proofs.Convolved.{sum_same}
use Rattle.pixel.proofs.SignedSums.{Diff, diff-sub, diff-mul}
use Rattle.kernel_lines.specs.Lines.{line_byte}
use Rattle.kernel_lines.specs.Convolved.{value_at, lane_sum}
use Rattle.kernel_taps.specs.Taps.{nothing, turned}
use Rattle.kernel_taps.proofs.DoubleSums.{nest, sum-pad, nest-diff}

module _ (k : Convolution) (v : List Fixed) where
  -- outside the kernel there is nothing
  turned-in : (i j : ℕ) → i < k.rows → j < k.columns → turned k v i j ≡ value_at v ((k.rows - 1 - i) * k.columns + (k.columns - 1 - j))
  unfolding turned
  turned-in i j a b = rw (lt-leb k.rows i a, lt-leb k.columns j b)

  pub turned-row : (i j : ℕ) → k.rows ≤ i → turned k v i j ≡ nothing
  unfolding turned
  turned-row i j a = rw (le-leb k.rows i a)

  pub turned-column : (i j : ℕ) → k.columns ≤ j → turned k v i j ≡ nothing
  unfolding turned
  turned-column i j a = rw (le-leb k.columns j a) (go (leb k.rows i))
    where
      go : (t : Bool) → cond t nothing nothing ≡ nothing
      go true = refl
      go false = refl

  no-weight : (u : Fixed) (x : ℕ) → u ≡ nothing → value u *ℤ pos x ≡ pos 0
  no-weight u x e = rw e (ap pos (zero-mul x))

  sum-none : (n : ℕ) (f : ℕ → ℤ) → ((i : ℕ) → f i ≡ pos 0) → sum n f ≡ pos 0
  unfolding sum
  sum-none n f h = sum-pad 0 n f (omega arith) (λ i a b. h i)

  -- the sum of a lane over n rows and columns, of which the kernel has no more
  pub lane-turned : (n : ℕ) (lines : List ℕ) (b : ℕ) → k.columns ≤ n → k.rows ≤ n
      → lane_sum k v lines b ≡ sum n (λ i. sum n (λ j. value (turned k v i j) *ℤ pos (line_byte lines i (b + 4 * j))))
  unfolding lane_sum
  lane-turned n lines b lc lr =
      let p : ℕ → ℕ → ℕ = λ i j. line_byte lines i (b + 4 * j) in
      let g : ℕ → ℕ → ℤ = λ i j. value (turned k v i j) *ℤ pos (p i j) in
      let row : (i : ℕ) → i < k.rows → sum k.columns (λ j. weight k (value_at v) (k.columns - 1 - j) (k.rows - 1 - i) *ℤ pos (p i j)) ≡ sum n (g i) =
      λ i l.
      sum_same k.columns (λ j. weight k (value_at v) (k.columns - 1 - j) (k.rows - 1 - i) *ℤ pos (p i j)) (g i)
      (λ j m. ap (λ (u : Fixed). value u *ℤ pos (p i j)) (sym (turned-in i j l m)))
      ∙ sym (sum-pad k.columns n (g i) lc (λ j a c. no-weight (turned k v i j) (p i j) (turned-column i j a))) in
      sum_same k.rows _ (λ i. sum n (g i)) row
      ∙ sym (sum-pad k.rows n (λ i. sum n (g i)) lr (λ i a c. sum-none n (g i) (λ j. no-weight (turned k v i j) (p i j) (turned-row i j a))))

  pub lane-diff : (n : ℕ) (lines : List ℕ) (b : ℕ) → k.columns ≤ n → k.rows ≤ n
      → Diff (lane_sum k v lines b)
      (nest n (λ i j. (turned k v i j).above * line_byte lines i (b + 4 * j)))
      (nest n (λ i j. (turned k v i j).below * line_byte lines i (b + 4 * j)))
  lane-diff n lines b lc lr =
      rw (lane-turned n lines b lc lr)
      (nest-diff n (λ i j. value (turned k v i j) *ℤ pos (line_byte lines i (b + 4 * j)))
      (λ i j. (turned k v i j).above * line_byte lines i (b + 4 * j))
      (λ i j. (turned k v i j).below * line_byte lines i (b + 4 * j))
      (λ i j l m. diff-mul (line_byte lines i (b + 4 * j)) (diff-sub (turned k v i j).above (turned k v i j).below)))
