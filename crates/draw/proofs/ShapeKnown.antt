-- A shape that is known, by those that it is not or whole. Assumes nothing.
use mathlib.Core.Path.{◌≡◌, refl, sym, subst}
use mathlib.Core.List.{List}
use Prim.Native.Nat.{ℕ}
use Rattle.number.specs.declared.Fixed.{Fixed}
use Rattle.pixel.specs.declared.Convolution.{Convolution}
use Rattle.filter.specs.declared.Input.{Input}
use Rattle.filter.specs.declared.Map.{Map}
use Rattle.filter.specs.declared.Pair.{Pair}
use Rattle.filter.specs.declared.Pass.{Pass}
use Rattle.filter.specs.declared.Rect.{Rect}
use Rattle.filter.specs.declared.Shape.{Shape}
use Rattle.filter.specs.declared.Shape.TheVariants as S
use Rattle.filter.specs.Effect.{Env}
use Rattle.filter.specs.Kinds.{work_of, reads}
use Rattle.filter.specs.Earlier.{Earlier}
use Rattle.filter.specs.Accepted.{Measured, Numbered}
use Rattle.buffers.specs.declared.Context.{Context}
use Rattle.buffers.specs.Context.{DrawnIn}
use Rattle.draw_point.specs.Kindless.{Kindless}

-- flood, offset and merge: the shapes without kinds inside
pub others-kindless : (k : Shape) → ((p : Pass) (i : Input) (dx dy : ℕ) → k ≡ S.Pass p i dx dy → ⊥) → ((m : Map) (i : Input) → k ≡ S.Map m i → ⊥)
    → ((p : Pair) (i j : Input) → k ≡ S.Pair p i j → ⊥) → ((c : Convolution) (i : Input) → k ≡ S.Convolve c i → ⊥) → Kindless k
unfolding Kindless
others-kindless (S.Flood c) a b d e = tt
others-kindless (S.Offset i dx dy) a b d e = tt
others-kindless (S.Pass p i dx dy) a b d e = absurd (a p i dx dy refl)
others-kindless (S.Map m i) a b d e = absurd (b m i refl)
others-kindless (S.Pair p i j) a b d e = absurd (d p i j refl)
others-kindless (S.Merge c is) a b d e = tt
others-kindless (S.Convolve k i) a b d e = absurd (e k i refl)

module _ (k l : Shape) (e : k ≡ l) where
  -- what was checked of it
  pub checked-known : (w h n : ℕ) (v : List Fixed) → Earlier n (reads w h k) → Measured k → Numbered k v → Earlier n (reads w h l) × Measured l × Numbered l v
  checked-known w h n v a b d = subst (λ (s : Shape). Earlier n (reads w h s) × Measured s × Numbered s v) e (a, b, d)

  pub drawn-known : (c : Context) (v : List Fixed) (E : Env) (r : Rect) (d d' : List ℕ) → DrawnIn c r (work_of c.w c.h l v E) d d' → DrawnIn c r (work_of c.w c.h k v E) d d'
  drawn-known c v E r d d' = subst (λ (s : Shape). DrawnIn c r (work_of c.w c.h s v E) d d') (sym e)
