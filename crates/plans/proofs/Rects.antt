-- Rectangles that end on a canvas, none of them yet and one more. Assumes nothing.
use Prim.Native.Nat.{ℕ, zero, suc, ◌<◌}
use mathlib.Core.Path.{◌≡◌, refl}
use mathlib.Core.List.{List}
use native.Mathlib.Omega.{arith}
use native.Mathlib.Decide.{ℕ_discrete}
use lib.ListN.{length, get_or, set, replicate}
use lib.Seq.{get_or-set_same, get_or-set_other}
use Rattle.filter.specs.declared.Input.{Input}
use Rattle.filter.specs.declared.Input.TheVariants.{Source, SourceAlpha, Layer}
use Rattle.filter.specs.declared.Rect.{Rect}
use Rattle.filter.specs.Rect.{empty}
use Rattle.filter.specs.Accepted.{Within}
use Rattle.damage.specs.InputRects.{rect_of, AllWithin}

empty-at : (n k : ℕ) → get_or (replicate n empty) k empty ≡ empty
empty-at zero k = refl
empty-at (suc n) zero = refl
empty-at (suc n) (suc k) = empty-at n k

module _ (w h : ℕ) (r : Rect) (k : Within w h r) where
  pub none_within : (n : ℕ) (zs : List Rect) → zs ≡ replicate n empty → AllWithin w h r zs
  unfolding rect_of
  none_within n zs e = rw e record { each = each }
    where
      each : (i : Input) → Within w h (rect_of r (replicate n empty) i)
      each Source = k
      each SourceAlpha = k
      each (Layer m) = rw (empty-at n m) record { right = omega arith; bottom = omega arith }

  pub more_within : (n : ℕ) (z : Rect) (zs : List Rect) → n < length zs → Within w h z → AllWithin w h r zs → AllWithin w h r (set zs n z)
  unfolding rect_of
  more_within n z zs l q A = record { each = each }
    where
      go : (m : ℕ) → Dec (m ≡ n) → Within w h (get_or (set zs n z) m empty)
      go m (yes e) = rw (e, get_or-set_same zs n z empty l) q
      go m (no ne) = rw (get_or-set_other zs n m z empty ne) (A.each (Layer m))

      each : (i : Input) → Within w h (rect_of r (set zs n z) i)
      each Source = k
      each SourceAlpha = k
      each (Layer m) = go m (ℕ_discrete m n)
