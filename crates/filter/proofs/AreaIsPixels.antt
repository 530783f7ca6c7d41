-- The area of a rectangle is the number of its pixels; the count of a redraw is at most the canvas for each step. Assumes nothing.
use Prim.Native.Nat.{ℕ, zero, suc, ◌+◌, ◌-◌, ◌*◌, ◌≤◌, ◌<◌, min}
use mathlib.Core.Path.{◌≡◌, refl, sym, ◌∙◌, ap}
use mathlib.Core.Bool.{Bool, true, false, cond, ◌&&◌}
use native.Mathlib.Nat.{zero-mul, suc-mul, mul_comm, mul-le-mul}
use native.Mathlib.Omega.{arith}
use lib.Dec.{ltb, leb}
use borrow.Author.Tests.{ltb-true, ltb-false, leb-true, leb-false}
use Rattle.window.specs.Window.{fold}
use Rattle.filter.specs.declared.Rect.{Rect}
use Rattle.filter.specs.declared.Input.TheVariants.{Layer}
use Rattle.filter.specs.Rect.{inside, area}
use Rattle.filter.specs.Effect.{Effect}
use Rattle.filter.specs.Layers.{damage, damages, count}
use Rattle.window.proofs.BandedPasses.{fold_same}
use Rattle.filter.proofs.RedrawIsRender.{damages-layer}

-- the pixels of a canvas w by h that lie in r, counted one by one
abbrev pub pixels_in : ℕ → ℕ → Rect → ℕ
pixels_in w h r = fold ◌+◌ 0 h (λ y. fold ◌+◌ 0 w (λ x. cond (inside r x y) 1 0))

-- k for each place from l up to r among the first n
span-sum : (l r k n : ℕ) → fold ◌+◌ 0 n (λ x. cond (leb l x && ltb x r) k 0) ≡ (min n r - l) * k
unfolding fold
span-sum l r k zero = let e : min 0 r - l ≡ 0 = omega arith in rw e (omega (arith, zero-mul k))
span-sum l r k (suc n) = rw (span-sum l r k n) (go (leb l n) (ltb n r) refl refl)
  where
    go : (a b : Bool) → leb l n ≡ a → ltb n r ≡ b → (min n r - l) * k + cond (a && b) k 0 ≡ (min (suc n) r - l) * k
    go true true s t =
        let u : l ≤ n = leb-true _ _ s in
        let v : n < r = ltb-true _ _ t in
        let e : min (suc n) r - l ≡ suc (min n r - l) = omega arith in
        rw e (omega (arith, suc-mul (min n r - l) k))
    go true false s t =
        let v : r ≤ n = ltb-false _ _ t in
        let e : min (suc n) r - l ≡ min n r - l = omega arith in
        rw e (omega arith)
    go false b s t =
        let u : n < l = leb-false _ _ s in
        let e : min (suc n) r - l ≡ min n r - l = omega arith in
        rw e (omega arith)

zero-sum : (n : ℕ) → fold ◌+◌ 0 n (λ x. 0) ≡ 0
unfolding fold
zero-sum zero = refl
zero-sum (suc n) = rw (zero-sum n)

-- the places of a row, where the row counts or does not
row-sum : (f : ℕ → Bool) (n : ℕ) (c d : Bool) → fold ◌+◌ 0 n (λ x. cond (f x && c && d) 1 0) ≡ cond (c && d) (fold ◌+◌ 0 n (λ x. cond (f x) 1 0)) 0
row-sum f n true true = fold_same ◌+◌ 0 n _ _ λ x l. both (f x)
  where
    both : (a : Bool) → ◌≡◌ {A = ℕ} (cond (a && true && true) 1 0) (cond a 1 0)
    both true = refl
    both false = refl
row-sum f n true false = fold_same ◌+◌ 0 n _ _ (λ x l. neither (f x)) ∙ zero-sum n
  where
    neither : (a : Bool) → ◌≡◌ {A = ℕ} (cond (a && true && false) 1 0) 0
    neither true = refl
    neither false = refl
row-sum f n false d = fold_same ◌+◌ 0 n _ _ (λ x l. neither (f x) d) ∙ zero-sum n
  where
    neither : (a b : Bool) → ◌≡◌ {A = ℕ} (cond (a && false && b) 1 0) 0
    neither true b = refl
    neither false b = refl

pub area-is-pixels : (w h : ℕ) (r : Rect) → r.right ≤ w → r.bottom ≤ h → pixels_in w h r ≡ area r
unfolding inside area
area-is-pixels w h r hw hh =
    fold_same ◌+◌ 0 h _ _ (λ y l. row-sum (λ x. leb r.left x && ltb x r.right) w (leb r.top y) (ltb y r.bottom) ∙ ap (λ (m : ℕ). cond (leb r.top y && ltb y r.bottom) m 0) across)
    ∙ span-sum r.top r.bottom (r.right - r.left) h
    ∙ down
  where
    across : fold ◌+◌ 0 w (λ x. cond (leb r.left x && ltb x r.right) 1 0) ≡ r.right - r.left
    across = span-sum r.left r.right 1 w ∙ omega arith

    down : (min h r.bottom - r.top) * (r.right - r.left) ≡ (r.right - r.left) * (r.bottom - r.top)
    down = let e : min h r.bottom - r.top ≡ r.bottom - r.top = omega arith in rw e (mul_comm (r.bottom - r.top) (r.right - r.left))

module _ (canvas : Rect) (effects : ℕ → Effect) (r : Rect) where
  -- "The count is the sum of the areas: .. of each step's rectangle after the cut, once for each step"
  count-sum : (n : ℕ) → count canvas effects r n ≡ fold ◌+◌ 0 n (λ k. area (damage canvas (effects k) (damages canvas effects r k)))
  unfolding count fold
  count-sum zero = refl
  count-sum (suc n) = ap (λ (m : ℕ). m + area (damage canvas (effects n) (damages canvas effects r n))) (count-sum n)

  pub count-is-areas : (n : ℕ) → count canvas effects r n ≡ fold ◌+◌ 0 n (λ k. area (damages canvas effects r n (Layer k)))
  count-is-areas n = count-sum n ∙ fold_same ◌+◌ 0 n _ _ λ k l. ap area (sym (damages-layer canvas effects r k n l))

  -- each rectangle is cut to the canvas
  pub count-le : (n : ℕ) → count canvas effects r n ≤ n * area canvas
  unfolding count area
  count-le zero = omega arith
  count-le (suc n) =
      let d : Rect = damage canvas (effects n) (damages canvas effects r n) in
      let u : d.right - d.left ≤ canvas.right - canvas.left = omega arith in
      let v : d.bottom - d.top ≤ canvas.bottom - canvas.top = omega arith in
      omega (arith, count-le n, suc-mul n ((canvas.right - canvas.left) * (canvas.bottom - canvas.top)), mul-le-mul u v)
