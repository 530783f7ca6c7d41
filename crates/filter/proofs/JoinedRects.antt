-- The smallest rectangle that holds two, and where the redraw rectangles lie. Assumes nothing.
use Prim.Native.Nat.{ℕ, zero, suc, ◌-◌, ◌≤◌, ◌<◌}
use mathlib.Core.Path.{◌≡◌, refl}
use mathlib.Core.Bool.{Bool, true, false, cond}
use native.Mathlib.Omega.{arith}
use lib.Dec.{eqb}
use Rattle.filter.specs.declared.Rect as R
use Rattle.filter.specs.declared.Input.{Input}
use Rattle.filter.specs.declared.Input.TheVariants.{Source, SourceAlpha, Layer}
use Rattle.filter.specs.Rect.{In, filled, hull, join}
use Rattle.filter.specs.Effect.{Effect}
use Rattle.filter.specs.Layers.{replaced, changed, bounds, damage, damages}
use Rattle.filter.proofs.PlacesInRects.{true-filled, in-join-left, in-join-right}
use Rattle.filter.proofs.RedrawIsRender.{damages-layer}

-- every pixel of p is in s
pub record Covers (s p : R.Rect) : Type 0 where
  pub covers : (x y : ℕ) → In p x y → In s x y

-- the last pixel of a filled rectangle
last-in : (r : R.Rect) → In r r.left r.top → In r (r.right - 1) (r.bottom - 1)
last-in r h = record { left = omega arith; right = omega arith; top = omega arith; bottom = omega arith }

hull-least : (p q s : R.Rect) → In p p.left p.top → In q q.left q.top → Covers s p → Covers s q → Covers s (hull p q)
hull-least p q s hp hq cp cq =
    let a = cp.covers _ _ hp in
    let b = cp.covers _ _ (last-in p hp) in
    let c = cq.covers _ _ hq in
    let d = cq.covers _ _ (last-in q hq) in
    record { covers = λ x y k. record { left = omega arith; right = omega arith; top = omega arith; bottom = omega arith } }

-- the join holds both, and every rectangle that holds both holds it
pub join-covers-left : (p q : R.Rect) → Covers (join p q) p
join-covers-left p q = record { covers = λ x y h. in-join-left p q h }

pub join-covers-right : (p q : R.Rect) → Covers (join p q) q
join-covers-right p q = record { covers = λ x y h. in-join-right p q h }

pub join-least : (p q s : R.Rect) → Covers s p → Covers s q → Covers s (join p q)
unfolding join
join-least p q s cp cq = go (filled p) (filled q) refl refl
  where
    go : (a b : Bool) → filled p ≡ a → filled q ≡ b → Covers s (cond a (cond b (hull p q) p) q)
    go true true e f = hull-least p q s (true-filled p e) (true-filled q f) cp cq
    go true false e f = cp
    go false b e f = cq

module _ (canvas : R.Rect) where
  -- the rectangle ends on the canvas
  abbrev pub Ends : R.Rect → Type 0
  Ends r = (r.right ≤ canvas.right) × (r.bottom ≤ canvas.bottom)

  changed-ends : (r : R.Rect) → Ends r → (i : Input) → Ends (changed r i)
  unfolding changed
  changed-ends r h Source = h
  changed-ends r h SourceAlpha = h
  changed-ends r h (Layer k) = (omega arith, omega arith)

  replaced-ends : (n : ℕ) (z : Input → R.Rect) (r : R.Rect) → ((i : Input) → Ends (z i)) → Ends r → (i : Input) → Ends (replaced n z r i)
  unfolding replaced
  replaced-ends n z r h k Source = h Source
  replaced-ends n z r h k SourceAlpha = h SourceAlpha
  replaced-ends n z r h k (Layer l) = go (eqb l n)
    where
      go : (b : Bool) → Ends (cond b r (z (Layer l)))
      go true = k
      go false = h (Layer l)

  -- a redraw rectangle lies in the canvas and in the region
  pub damage-inside : (e : Effect) (z : Input → R.Rect) → Covers (bounds canvas e) (damage canvas e z)
  damage-inside e z = record { covers = λ x y h. record { left = omega arith; right = omega arith; top = omega arith; bottom = omega arith } }

  pub damages-inside : (effects : ℕ → Effect) (r : R.Rect) (k n : ℕ) → k < n
      → Covers (bounds canvas (effects k)) (damages canvas effects r n (Layer k))
  damages-inside effects r k n l = rw (damages-layer canvas effects r k n l) (damage-inside (effects k) (damages canvas effects r k))

  -- its far bounds are at most the canvas', also where it is empty
  pub damages-within : (effects : ℕ → Effect) (r : R.Rect) → Ends r → (n : ℕ) (i : Input) → Ends (damages canvas effects r n i)
  unfolding damages
  damages-within effects r h zero i = changed-ends r h i
  damages-within effects r h (suc n) i = replaced-ends n _ _ (damages-within effects r h n) ((omega arith, omega arith)) i
