-- A convolution depends on the kernel's window, or with an edge that is extended on the whole canvas. Assumes nothing.
use Prim.Native.Nat.{ℕ, ◌+◌, ◌-◌, ◌*◌, ◌%◌, ◌≤◌, ◌<◌, min}
use mathlib.Core.Path.{◌≡◌, refl, sym, ap, ap₂, ◌∙◌}
use mathlib.Core.Bool.{Bool, true, false, cond}
use native.Mathlib.Nat.{mod-lt}
use native.Mathlib.Omega.{arith}
use lib.Dec.{leb}
use lib.IntN.{ℤ, pos, ◌*ℤ◌}
use borrow.Author.Tests.{leb-true}
use Rattle.number.specs.declared.Fixed.{Fixed}
use Rattle.pixel.specs.declared.Pixel.{Pixel}
use Rattle.pixel.specs.declared.Edge.{Edge}
use Rattle.pixel.specs.declared.Edge.TheVariants.{Duplicate, Wrap, None}
use Rattle.pixel.specs.declared.Convolution.{Convolution}
use Rattle.pixel.specs.Alpha.{clear, unpremultiplied}
use Rattle.pixel.specs.Convolve.{weight, divisor_of, bias_of, extended, quotient, neighbour, weighed, channel_sum, convolved}
use Rattle.pixel.proofs.Convolved.{sum_same}
use Rattle.filter.specs.Rect.{In, canvas_of}
use Rattle.filter.specs.Picture.{Picture, blank, patch}
use Rattle.filter.specs.Reach.{Axis, Sees}
use Rattle.filter.specs.Kinds.{kernel_sight, sight_across, sight_down}
use Rattle.filter.proofs.PlacesInRects.{in?}
use Rattle.filter.proofs.Patches.{patch-in, patch-out}

-- the pictures are the same in the window h across and k down at (x, y)
abbrev pub SameWithin : Axis → Axis → Picture → Picture → ℕ → ℕ → Type 0
SameWithin h k p q x y = (u v : ℕ) → Sees h x u → Sees k y v → p u v ≡ q u v

-- a place of the line, by the edge mode, is one that is seen
extended-same : (e : Edge) (m n t x j : ℕ) (f g : ℕ → Pixel) → x < m → j < n → ((u : ℕ) → Sees (kernel_sight e m n t) x u → f u ≡ g u)
    → extended e m t f (x + j) ≡ extended e m t g (x + j)
unfolding extended
extended-same Duplicate m n t x j f g l k h = h (min (x + j - t) (m - 1)) (record { low = omega arith; high = omega arith })
extended-same Wrap m n t x j f g l k h =
    let pos-m : 0 < m = omega arith in
    let u : (x + j + t * (m - 1)) % m < m = mod-lt (x + j + t * (m - 1)) pos-m in
    h ((x + j + t * (m - 1)) % m) (record { low = omega (arith, u); high = omega (arith, u) })
extended-same None m n t x j f g l k h = go (leb t (x + j)) refl
  where
    go : (b : Bool) → leb t (x + j) ≡ b → cond b (f (x + j - t)) clear ≡ cond b (g (x + j - t)) clear
    go true e = let le : t ≤ x + j = leb-true _ _ e in h (x + j - t) (record { low = omega arith; high = omega arith })
    go false e = refl

-- the own place is one of them
own-seen : (e : Edge) (m n t x : ℕ) → Sees (kernel_sight e m n t) x x
own-seen Duplicate m n t x = record { low = omega arith; high = omega arith }
own-seen Wrap m n t x = record { low = omega arith; high = omega arith }
own-seen None m n t x = record { low = omega arith; high = omega arith }

module _ (w h : ℕ) (k : Convolution) (v : ℕ → Fixed) (f g : Picture) (x y : ℕ) (lx : x < w) (ly : y < h)
    (same : SameWithin (sight_across w k) (sight_down h k) f g x y) where
  own_same : f x y ≡ g x y
  own_same = same x y (own-seen k.edge w k.columns k.column x) (own-seen k.edge h k.rows k.row y)

  neighbour-same : (j i : ℕ) → j < k.columns → i < k.rows → neighbour w h k v f x y j i ≡ neighbour w h k v g x y j i
  unfolding neighbour
  neighbour-same j i lj li =
      extended-same k.edge h k.rows k.row y i _ _ ly li λ q t.
      extended-same k.edge w k.columns k.column x j _ _ lx lj λ p s. same p q s t

  channel-same : (channel : Pixel → ℕ) → channel_sum w h k v f x y channel ≡ channel_sum w h k v g x y channel
  unfolding weighed
  channel-same channel =
      ap₂ (λ (s : ℤ) (p : Pixel). quotient s (bias_of k v) p.a (divisor_of k v))
      (sum_same k.rows _ _ λ i li. sum_same k.columns _ _ λ j lj.
      ap (λ (p : Pixel). weight k v (k.columns - 1 - j) (k.rows - 1 - i) *ℤ pos (channel p)) (neighbour-same j i lj li))
      own_same

  inner-same : convolved w h k v f x y ≡ convolved w h k v g x y
  unfolding convolved
  inner-same =
      rw (
        channel-same (λ p. unpremultiplied p.r p.a),
        channel-same (λ p. unpremultiplied p.g p.a),
        channel-same (λ p. unpremultiplied p.b p.a),
        channel-same (λ p. p.r),
        channel-same (λ p. p.g),
        channel-same (λ p. p.b),
        channel-same (λ p. p.a),
        own_same,
      )

pub convolved-local : (w h : ℕ) (k : Convolution) (v : ℕ → Fixed) (f g : Picture) (x y : ℕ) → SameWithin (sight_across w k) (sight_down h k) f g x y
    → patch (canvas_of w h) (convolved w h k v f) blank x y ≡ patch (canvas_of w h) (convolved w h k v g) blank x y
convolved-local w h k v f g x y same = go (in? (canvas_of w h) x y)
  where
    go : Dec (In (canvas_of w h) x y) → patch (canvas_of w h) (convolved w h k v f) blank x y ≡ patch (canvas_of w h) (convolved w h k v g) blank x y
    go (yes i) = patch-in _ _ _ i ∙ inner-same w h k v f g x y i.right i.bottom same ∙ sym (patch-in _ _ _ i)
    go (no i) = patch-out _ _ _ i ∙ sym (patch-out _ _ _ i)
