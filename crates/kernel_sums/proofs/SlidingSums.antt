-- The running sum of a window along any function: it starts at 0, slides, and is the window's sum. Assumes nothing.
use mathlib.Core.Path.{◌≡◌, refl, sym, ap, ◌∙◌, fun_ext}
use mathlib.Core.Logic.{⊎_elim}
use Prim.Native.Nat.{ℕ, zero, suc, ◌+◌, ◌-◌, ◌*◌, ◌/◌, ◌≤◌, ◌<◌}
use native.Mathlib.Nat.{add-suc}
use native.Mathlib.Numerals.{add-one}
use native.Mathlib.Omega.{arith}
use Rattle.window.specs.Window.{fold, behind, over, mean}
use Rattle.window.proofs.Store.{lt-or-le}
use Rattle.window.proofs.BandedPasses.{behind-in, behind-out}
use Rattle.kernel_sums.specs.Running.{running, rounded}

behind-suc : (back : ℕ) (f : ℕ → ℕ) (i : ℕ) → behind (back + 1) f (i + 1) ≡ behind back f i
behind-suc back f i = ⊎_elim
    (λ h. behind-out (back + 1) f (i + 1) (omega arith) ∙ sym (behind-out back f i h))
    (λ h. behind-in (back + 1) f (i + 1) (omega arith) ∙ ap f (omega arith) ∙ sym (behind-in back f i h))
    (lt-or-le i back)

behind-lt : (back : ℕ) (f : ℕ → ℕ) (i : ℕ) → ((x : ℕ) → f x < 256) → behind back f i < 256
behind-lt back f i h = ⊎_elim
    (λ l. omega (arith, behind-out back f i l))
    (λ l. omega (arith, behind-in back f i l, h (i - back)))
    (lt-or-le i back)

-- the next window of m places: the first goes, and one comes
slide : (g : ℕ → ℕ) (m y : ℕ) → fold ◌+◌ 0 m (λ t. g (y + 1 + t)) + g y ≡ fold ◌+◌ 0 m (λ t. g (y + t)) + g (y + m)
unfolding fold
slide g zero y = ap (λ (x : ℕ). 0 + g x) (omega arith)
slide g (suc m) y =
    let e : g (y + 1 + m) ≡ g (y + suc m) = ap g (omega arith) in
    omega (arith, slide g m y, e)

-- one place more
pub fold_more : (g : ℕ → ℕ) (m : ℕ) → fold ◌+◌ 0 (m + 1) g ≡ fold ◌+◌ 0 m g + g m
unfolding fold
fold_more g m = rw (add-one m)

pub fold-none : (g : ℕ → ℕ) → fold ◌+◌ 0 0 g ≡ 0
unfolding fold
fold-none g = refl

pub fold-le : (g : ℕ → ℕ) (m : ℕ) → ((x : ℕ) → g x < 256) → fold ◌+◌ 0 m g ≤ 255 * m
unfolding fold
fold-le g zero h = omega arith
fold-le g (suc m) h = omega (arith, fold-le g m h, h m)

-- no place of the line is in the window yet
none : (b : ℕ) (f : ℕ → ℕ) (m : ℕ) → m ≤ b → fold ◌+◌ 0 m (λ t. behind b f (0 + t)) ≡ 0
unfolding fold
none b f zero h = refl
none b f (suc m) h = omega (arith, none b f m (omega arith), behind-out b f (0 + m) (omega arith))

first : (b : ℕ) (f : ℕ → ℕ) (m : ℕ) → fold ◌+◌ 0 (b + m) (λ t. behind b f (0 + t)) ≡ fold ◌+◌ 0 m f
unfolding fold
first b f zero = none b f (b + 0) (omega arith)
first b f (suc m) =
    let e : f (0 + (b + m) - b) ≡ f m = ap f (omega arith) in
    rw (add-suc b m) (omega (arith, first b f m, behind-in b f (0 + (b + m)) (omega arith), e))

module _ (back ahead : ℕ) (f : ℕ → ℕ) where
  pub running-start : running back ahead f 0 ≡ fold ◌+◌ 0 ahead f
  unfolding running
  running-start =
      let e : back + ahead + 1 ≡ back + 1 + ahead = omega arith in
      rw e (first (back + 1) f ahead)

  -- what comes at place y, and what goes
  pub running-slide : (y : ℕ) → running back ahead f (y + 1) + behind (back + 1) f y ≡ running back ahead f y + f (y + ahead)
  unfolding running
  running-slide y =
      let e : f (y + (back + ahead + 1) - (back + 1)) ≡ f (y + ahead) = ap f (omega arith) in
      omega (arith, slide (behind (back + 1) f) (back + ahead + 1) y, behind-in (back + 1) f (y + (back + ahead + 1)) (omega arith), e)

  pub running-over : (y : ℕ) → running back ahead f (y + 1) ≡ over ◌+◌ 0 back ahead f y
  unfolding running
  running-over y = ap (fold ◌+◌ 0 (back + ahead + 1)) (fun_ext (λ t. ap (behind (back + 1) f) (omega arith) ∙ behind-suc back f (y + t)))

  pub running-le : (y : ℕ) → ((x : ℕ) → f x < 256) → running back ahead f y ≤ 255 * (back + ahead + 1)
  unfolding running
  running-le y h = fold-le (λ t. behind (back + 1) f (y + t)) (back + ahead + 1) (λ t. behind-lt (back + 1) f (y + t) h)

  -- so the mean is the rounded sum by the size
  pub rounded-mean : (y : ℕ) → rounded back ahead f (y + 1) / (back + ahead + 1) ≡ mean back ahead f y
  unfolding mean
  rounded-mean y = ap (λ (n : ℕ). n / (back + ahead + 1)) (omega (arith, running-over y))

  pub rounded-le : (y : ℕ) → ((x : ℕ) → f x < 256) → rounded back ahead f y ≤ 255 * (back + ahead + 1) + (back + ahead + 1) / 2
  rounded-le y h = omega (arith, running-le y h)
