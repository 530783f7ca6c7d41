-- Shapes without kinds need no values; a shape on buffers that were drawn to; and a shape that is known. Assumes nothing.
use mathlib.Core.Path.{◌≡◌, refl, sym, subst}
use mathlib.Core.List.{List, []}
use Prim.Native.Nat.{ℕ}
use Rattle.number.specs.declared.Fixed.{Fixed}
use Rattle.filter.specs.declared.Rect.{Rect}
use Rattle.filter.specs.declared.Shape.{Shape}
use Rattle.filter.specs.declared.Shape.TheVariants as S
use Rattle.filter.specs.Picture.{Picture}
use Rattle.filter.specs.Effect.{Env}
use Rattle.filter.specs.Kinds.{work_of, reads}
use Rattle.filter.specs.Earlier.{Earlier}
use Rattle.buffers.specs.declared.Context.{Context}
use Rattle.buffers.specs.declared.RowPart.{RowPart}
use Rattle.buffers.specs.Shown.{shown}
use Rattle.buffers.specs.Context.{RowPainted, DrawnIn}
use Rattle.buffers.proofs.AfterDrawing.{drawable-later, work-later}
use Rattle.draw_point.specs.Kindless.{Kindless}
use Rattle.draw_point.specs.RowDrawn.{Workable, RowDrawn}

pub kindless-values : (w h : ℕ) (k : Shape) (v : List Fixed) (E : Env) → Kindless k → work_of w h k v E ≡ work_of w h k [] E
unfolding Kindless work_of
kindless-values w h (S.Flood c) v E q = refl
kindless-values w h (S.Offset i dx dy) v E q = refl
kindless-values w h (S.Pass p i dx dy) v E q = absurd q
kindless-values w h (S.Map m i) v E q = absurd q
kindless-values w h (S.Pair p i j) v E q = absurd q
kindless-values w h (S.Merge c is) v E q = refl
kindless-values w h (S.Convolve k i) v E q = absurd q

-- on buffers that other rows of the layer were drawn to, it can still be worked, and a row of it is what it was
module _ (c : Context) (r : Rect) (new : Picture) (src d d' : List ℕ) (k : Shape) (D : DrawnIn c r new d d') where
  pub workable-later : (pairs : List ℕ) → Workable c src d pairs k → Workable c src d' pairs k
  workable-later pairs W = record { drawable = drawable-later c r new src d d' pairs D W.drawable; earlier = W.earlier; measured = W.measured }

  pub row-later : (p : RowPart) (d'' : List ℕ) → Earlier c.n (reads c.w c.h k) → RowDrawn c k p src d' d''
      → RowPainted c p (λ x. work_of c.w c.h k [] (shown c src d) x p.y) d' d''
  row-later p d'' e = subst (λ (q : Picture). RowPainted c p (λ x. q x p.y) d' d'') (work-later c r new src d d' D k [] e)

-- a shape that is known
module _ (c : Context) (k l : Shape) (e : k ≡ l) where
  pub workable-known : (src ws pairs : List ℕ) → Workable c src ws pairs k → Workable c src ws pairs l
  workable-known src ws pairs = subst (λ (s : Shape). Workable c src ws pairs s) e

  pub kindless-known : Kindless k → Kindless l
  kindless-known = subst Kindless e

  pub drawn-known : (p : RowPart) (src ws ws' : List ℕ) → RowDrawn c l p src ws ws' → RowDrawn c k p src ws ws'
  drawn-known p src ws ws' = subst (λ (s : Shape). RowDrawn c s p src ws ws') (sym e)
