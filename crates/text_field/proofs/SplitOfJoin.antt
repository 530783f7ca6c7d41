-- What `join_with_byte` puts together, `split` takes apart. Assumes nothing.
use mathlib.Core.Path.{◌≡◌, refl, ap, ◌∙◌}
use mathlib.Core.Bool.{Bool, true, false, cond}
use mathlib.Core.List.{List, [], ◌∷◌}
use Prim.Native.Nat.{ℕ, ◌≤◌}
use native.Mathlib.Omega.{arith}
use lib.Dec.{eqb}
use lib.ListN.{get_or}
use borrow.Author.Tests.{eq-eqb}
use Rattle.std.specs.List.{All, count_by, join_with_byte}
use Rattle.std.proofs.lemmas.List.Sums.{get_or-le-sum_by}
use Rattle.std.proofs.lemmas.List.Splits.{slice_split_none, slice_split_at}
use Rattle.text_field.specs.Split.{split}

-- how many bytes are d
abbrev pub occurs : ℕ → List ℕ → ℕ
occurs d s = count_by (λ x. eqb x d) s

-- no piece has d
pub data Free (d : ℕ) : List (List ℕ) → Type 0 where
  none : Free d []
  more : {f : List ℕ} {fs : List (List ℕ)} → occurs d f ≡ 0 → Free d fs → Free d (f ∷ fs)

each-other : (d : ℕ) (f : List ℕ) → occurs d f ≡ 0 → All (λ x. eqb x d ≡ false) f
each-other d f h k z l = go (eqb (get_or f k z) d) (get_or-le-sum_by (λ x. cond (eqb x d) 1 0) f k z l)
  where
    go : (b : Bool) → cond b 1 0 ≤ occurs d f → b ≡ false
    go true e = absurd (omega arith)
    go false e = refl

pub split-join : (d : ℕ) (f : List ℕ) (fs : List (List ℕ)) → Free d (f ∷ fs) → split d (join_with_byte d (f ∷ fs)) ≡ f ∷ fs
unfolding split
split-join d f [] (more h r) = slice_split_none (λ x. eqb x d) f (each-other d f h)
split-join d f (g ∷ fs) (more h r) = slice_split_at (λ x. eqb x d) f d (join_with_byte d (g ∷ fs)) (each-other d f h) (eq-eqb d d refl) ∙ ap (f ∷◌) (split-join d g fs r)
