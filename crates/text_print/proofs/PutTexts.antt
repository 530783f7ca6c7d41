-- Texts stored one after another. Assumes nothing.
use mathlib.Core.Path.{◌≡◌, refl, sym, ap, ◌∙◌}
use mathlib.Core.List.{List, [], ◌∷◌, ◌++◌}
use Prim.Native.Nat.{ℕ, ◌+◌, ◌*◌, ◌≤◌, ◌<◌}
use native.Mathlib.Omega.{arith}
use native.Mathlib.Nat.{add-zero, add-mul, mul-le-mul_right}
use native.Mathlib.Numerals.{add-one}
use lib.ListN.{length, set, length-append}
use Rattle.filter.specs.Bytes.{concat}
use Rattle.filter.proofs.BytesHoldPictures.{concat-length}
use Rattle.text_step.specs.ManyFields.{stored}
use Rattle.text_step.proofs.StoredBytes.{stored-none, stored_next, stored_more}
use Rattle.text_print.specs.Code.{Put}

pub put-none : (at : ℕ) (d : List ℕ) → Put [] at d d at
put-none at d = record { is = sym (stored-none d at); ends = sym (add-zero at) }

pub put_one : (at : ℕ) (d : List ℕ) (x : ℕ) → at < length d → Put (x ∷ []) at d (set d at x) (at + 1)
put_one at d x h = record {
  is = ap (λ (l : List ℕ). set l at x) (sym (stored-none d at)) ∙ stored_more d at [] x at (sym (add-zero at)) h;
  ends = refl;
}

module _ {t : List ℕ} {at : ℕ} {d d' : List ℕ} {m : ℕ} (p : Put t at d d' m) where
  pub put_then : {u d'' : List ℕ} {n : ℕ} → Put u m d' d'' n → at + length t + length u ≤ length d → Put (t ++ u) at d d'' n
  put_then {u} {d''} {n} q h = record {
    is = q.is ∙ ap (λ (l : List ℕ). stored l m u) p.is ∙ ap (λ (j : ℕ). stored (stored d at t) j u) p.ends ∙ stored_next d at t u h;
    ends = omega (arith, p.ends, q.ends, length-append t u);
  }

  pub put_as : (u : List ℕ) → t ≡ u → Put u at d d' m
  put_as u e = rw e at p

-- n texts of k bytes each, one after another: what a loop keeps after i of them
module _ (f : ℕ → List ℕ) (k n at : ℕ) (d : List ℕ) where
  pub record Putting (d' : List ℕ) (end i : ℕ) : Type 0 where
    pub each : (j : ℕ) → length (f j) ≡ k
    pub hi : i ≤ n
    pub room : at + n * k ≤ length d
    pub same : length d' ≡ length d
    pub put : Put (concat f i) at d d' end

  pub putting-none : ((j : ℕ) → length (f j) ≡ k) → at + n * k ≤ length d → Putting d at 0
  unfolding concat
  putting-none e h = record { each = e; hi = omega arith; room = h; same = refl; put = put-none at d }

  module _ (d' : List ℕ) (end i : ℕ) (I : Putting d' end i) (more : i < n) where
    before : at + i * k + k ≤ length d
    before = omega (arith, I.room, mul-le-mul_right k more, add-mul i 1 k)

    pub putting-room : end + k ≤ length d'
    putting-room = omega (arith, before, I.same, I.put.ends, concat-length f k I.each i)

    pub putting-more : (d'' : List ℕ) (m : ℕ) (t : List ℕ) → t ≡ f i → length d'' ≡ length d' → Put t end d' d'' m → Putting d'' m (i + 1)
    unfolding concat
    putting-more d'' m t e l p = record {
      each = I.each;
      hi = omega arith;
      room = I.room;
      same = l ∙ I.same;
      put = rw (add-one i) (put_then I.put (put_as p (f i) e) (omega (arith, before, I.each i, concat-length f k I.each i)));
    }

  pub putting-all : (d' : List ℕ) (end i : ℕ) → Putting d' end i → n ≤ i → Put (concat f n) at d d' end
  putting-all d' end i I h = let e : i ≡ n = omega (arith, I.hi) in rw e at I.put

  pub putting-end : (d' : List ℕ) (end i : ℕ) → Putting d' end i → n ≤ i → end ≡ at + n * k
  putting-end d' end i I h = omega (arith, (putting-all d' end i I h).ends, concat-length f k I.each n)
