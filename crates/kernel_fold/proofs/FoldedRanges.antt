-- Laws of ranges of one buffer: what lies outside a store, and a fold that stores apart from what it reads. Assumes nothing.
use mathlib.Core.Path.{◌≡◌, refl, ap₂, ◌∙◌}
use mathlib.Core.List.{List, [], ◌∷◌}
use mathlib.Core.Logic.{⊎_elim}
use Prim.Native.Nat.{ℕ, suc, ◌+◌, ◌-◌, ◌≤◌, ◌<◌}
use native.Mathlib.Omega.{arith}
use lib.ListN.{length, get_or, set}
use Rattle.window.specs.Store.{Filled}
use Rattle.window.proofs.Store.{filled_more}
use Rattle.window.specs.Ranges.{Apart}
use Rattle.std.specs.Prelude.{All, fold}
use Rattle.kernel_fold.specs.Operation.{together}
use Rattle.kernel_fold.specs.Ranges.{Foldable}

-- what is read apart from the range is as it was
pub kept : (f : ℕ → ℕ) (w to m i : ℕ) (d d' : List ℕ) → Apart w m to m → i < m → Filled f to (to + i) d d' → get_or d' (w + i) 0 ≡ get_or d (w + i) 0
kept f w to m i d d' apart turn F = ⊎_elim (λ g. F.before (w + i) (omega arith)) (λ g. F.after (w + i) (omega arith)) apart

-- so are the bytes that a fold puts together
module _ (op : ℕ → ℕ → ℕ) (f : ℕ → ℕ) (to m i : ℕ) (d d' : List ℕ) (turn : i < m) (F : Filled f to (to + i) d d') where
  fold-kept : (x y : ℕ) (places : List ℕ) → x ≡ y → ((k : ℕ) → k < length places → Apart (get_or places k 0) m to m)
      → fold (λ x w. op x (get_or d' (w + i) 0)) x places ≡ fold (λ x w. op x (get_or d (w + i) 0)) y places
  fold-kept x y [] e apart = e
  fold-kept x y (w ∷ places) e apart =
      fold-kept (op x (get_or d' (w + i) 0)) (op y (get_or d (w + i) 0)) places (ap₂ op e (kept f w to m i d d' (apart 0 (omega arith)) turn F)) (λ k h. apart (suc k) (omega arith))

  pub together-kept : (first : ℕ) (others : List ℕ) → Apart first m to m → All (λ w. Foldable w to m d) others → together op d' first others i ≡ together op d first others i
  together-kept first others a all = fold-kept _ _ others (kept f first to m i d d' a turn F) (λ k h. (all k 0 h).1)

  -- one store more
  pub fold_more : (first : ℕ) (others : List ℕ) (v : ℕ) → Foldable first to m d → All (λ w. Foldable w to m d) others → to + m ≤ length d → v ≡ together op d' first others i
      → f ≡ (λ j. together op d first others (j - to)) → Filled f to (to + (i + 1)) d (set d' (to + i) v)
  fold_more first others v one all room stored e =
      let l : to + (i + 1) ≡ to + i + 1 = omega arith in
      let at : to + i - to ≡ i = omega arith in
      rw l (filled_more f to (to + i) v d d' (omega arith) (omega arith) (stored ∙ together-kept first others one.1 all ∙ rw e (rw at refl)) F)
