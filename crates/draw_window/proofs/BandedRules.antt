-- Rules along a line for which a band of the line is enough. Assumes nothing.
use Prim.Native.Nat.{ℕ, zero, suc, ◌+◌, ◌-◌, ◌≤◌, ◌<◌, min}
use mathlib.Core.Path.{◌≡◌, refl, sym, ap, subst, ◌∙◌}
use mathlib.Core.Bool.{Bool, true, false, cond}
use native.Mathlib.Nat.{zero-add}
use native.Mathlib.Omega.{arith}
use lib.Dec.{leb}
use Rattle.window.specs.Window.{fold, behind, within, over}
use Rattle.window.proofs.BandedPasses.{fold_same, banded-start, over-band}
use Rattle.draw_window.specs.LineRules.{Rule}

-- Places a .. b - 1 of a line of n places, worked on the band that reaches back before them and ahead behind them, are what they
-- are on the whole line; and a line of zeros stays so.
pub record Banded (rule : Rule) (back ahead : ℕ) : Type 0 where
  pub band : (n a b : ℕ) (f : ℕ → ℕ) → ((u : ℕ) → n ≤ u → f u ≡ 0) → (x : ℕ) → a ≤ x → x < b → x < n → (lo hi : ℕ) → lo ≡ a - back → hi ≡ min n (b + ahead)
      → rule (hi - lo) (within (hi - lo) (λ j. f (lo + j))) (x - lo) ≡ rule n f x
  pub zeros : (n x : ℕ) → rule n (λ u. 0) x ≡ 0

-- the band given by its ends
pub band-ends : (rule : Rule) (n a b back ahead : ℕ) (f : ℕ → ℕ) (x lo hi : ℕ) → lo ≡ a - back → hi ≡ min n (b + ahead)
    → rule (min n (b + ahead) - (a - back)) (within (min n (b + ahead) - (a - back)) (λ j. f (a - back + j))) (x - (a - back)) ≡ rule n f x
    → rule (hi - lo) (within (hi - lo) (λ j. f (lo + j))) (x - lo) ≡ rule n f x
band-ends rule n a b back ahead f x lo hi el eh e =
    subst (λ (l : ℕ). rule (hi - l) (within (hi - l) (λ j. f (l + j))) (x - l) ≡ rule n f x) (sym el)
    (subst (λ (k : ℕ). rule (k - (a - back)) (within (k - (a - back)) (λ j. f (a - back + j))) (x - (a - back)) ≡ rule n f x) (sym eh) e)

behind-zeros : (back i : ℕ) → behind back (λ u. 0) i ≡ 0
unfolding behind
behind-zeros back i = go (leb back i)
  where
    go : (t : Bool) → cond {A = ℕ} t 0 0 ≡ 0
    go true = refl
    go false = refl

-- a window of zeros, by its operation
pub over_zeros : (op : ℕ → ℕ → ℕ) (e back ahead x : ℕ) → fold op e (back + ahead + 1) (λ t. 0) ≡ 0 → over op e back ahead (λ u. 0) x ≡ 0
over_zeros op e back ahead x z = fold_same op e (back + ahead + 1) _ (λ t. 0) (λ t l. behind-zeros back (x + t)) ∙ z

pub fold-zeros : (op : ℕ → ℕ → ℕ) → op 0 0 ≡ 0 → (n : ℕ) → fold op 0 n (λ t. 0) ≡ 0
unfolding fold
fold-zeros op z zero = refl
fold-zeros op z (suc n) = ap (λ (k : ℕ). op k 0) (fold-zeros op z n) ∙ z

-- a window's places put together
pub over-banded : (op : ℕ → ℕ → ℕ) (e back ahead : ℕ) → fold op e (back + ahead + 1) (λ t. 0) ≡ 0 → Banded (λ n. over op e back ahead) back ahead
over-banded op e back ahead z = record {
  band = λ n a b f blank x p q s lo hi el eh.
      band-ends (λ n. over op e back ahead) n a b back ahead f x lo hi el eh
      (over-band n a b back ahead 0 0 back ahead f _ (rw (zero-add back, zero-add ahead) (banded-start n a b back ahead f blank)) (omega arith) (omega arith) op e x (omega arith) (omega arith));
  zeros = λ n x. over_zeros op e back ahead x z;
}
