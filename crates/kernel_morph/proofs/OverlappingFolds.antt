-- Windows put together by an operation that is associative, commutative and idempotent: what two overlapping windows give. Assumes nothing.
use mathlib.Core.Path.{◌≡◌, refl, sym, ap, ap₂, ◌∙◌}
use mathlib.Core.Logic.{⊎_elim}
use Prim.Native.Nat.{ℕ, zero, suc, ◌+◌, ◌≤◌, ◌<◌, max}
use native.Mathlib.Omega.{arith}
use Rattle.window.specs.Window.{fold}
use Rattle.window.proofs.Store.{lt-or-le}
use Rattle.kernel_fold.proofs.Semilattices.{Semilattice, twice, swap}

module _ (op : ℕ → ℕ → ℕ) (e : ℕ) (S : Semilattice op) where
  -- the start is in every fold already, and so is each term
  pub fold_start : (n : ℕ) (f : ℕ → ℕ) → op (fold op e n f) e ≡ fold op e n f
  unfolding fold
  fold_start zero f = S.idem e
  fold_start (suc n) f = swap op S _ _ _ ∙ ap (λ (x : ℕ). op x (f n)) (fold_start n f)

  pub fold-absorb : (n t : ℕ) (f : ℕ → ℕ) → t < n → op (fold op e n f) (f t) ≡ fold op e n f
  unfolding fold
  fold-absorb zero t f h = absurd (omega arith)
  fold-absorb (suc n) t f h = ⊎_elim
      (λ l. swap op S _ _ _ ∙ ap (λ (x : ℕ). op x (f n)) (fold-absorb n t f l))
      (λ l. let q : t ≡ n = omega arith in rw q (twice op S _ _))
      (lt-or-le t n)

  -- f 0 .. f (m - 1) and f a .. f (a + n - 1), which overlap or touch
  pub fold-join : (m a n : ℕ) (f : ℕ → ℕ) → a ≤ m → op (fold op e m f) (fold op e n (λ t. f (a + t))) ≡ fold op e (max m (a + n)) f
  unfolding fold
  fold-join m a zero f h = let q : max m (a + 0) ≡ m = omega arith in rw q (fold_start m f)
  fold-join m a (suc n) f h = sym (S.assoc _ _ _) ∙ ap (λ (x : ℕ). op x (f (a + n))) (fold-join m a n f h) ∙ ⊎_elim
      (λ l.
      let p : max m (a + n) ≡ m = omega arith in
      let q : max m (a + suc n) ≡ m = omega arith in
      rw (p, q) (fold-absorb m (a + n) f l))
      (λ l.
      let p : max m (a + n) ≡ a + n = omega arith in
      let q : max m (a + suc n) ≡ suc (a + n) = omega arith in
      rw (p, q))
      (lt-or-le (a + n) m)

  fold-only : (n : ℕ) (f : ℕ → ℕ) → ((t : ℕ) → t < n → f t ≡ e) → fold op e n f ≡ e
  unfolding fold
  fold-only zero f h = refl
  fold-only (suc n) f h = ap₂ op (fold-only n f (λ t l. h t (omega arith))) (h n (omega arith)) ∙ S.idem e

  -- terms at the ends that are the start can be left out
  pub fold-trim : (l m r : ℕ) (f : ℕ → ℕ) → ((t : ℕ) → t < l → f t ≡ e) → ((t : ℕ) → t < r → f (l + m + t) ≡ e) → fold op e (l + m + r) f ≡ fold op e m (λ t. f (l + t))
  fold-trim l m r f front back =
      let p : max (l + m) (l + m + r) ≡ l + m + r = omega arith in
      let q : max l (l + m) ≡ l + m = omega arith in
      sym (rw p at (fold-join (l + m) (l + m) r f (omega arith)))
      ∙ ap (op (fold op e (l + m) f)) (fold-only r (λ t. f (l + m + t)) back)
      ∙ fold_start (l + m) f
      ∙ sym (rw q at (fold-join l l m f (omega arith)))
      ∙ ap (λ (x : ℕ). op x (fold op e m (λ t. f (l + t)))) (fold-only l f front)
      ∙ S.comm _ _
      ∙ fold_start m (λ t. f (l + t))
