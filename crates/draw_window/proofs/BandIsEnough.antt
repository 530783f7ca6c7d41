-- A rule along the rows, and then along the columns, of a picture: the band that is worked gives what the whole picture gives.
-- Assumes nothing.
use Prim.Native.Nat.{ℕ, ◌+◌, ◌-◌, ◌*◌, ◌≤◌, ◌<◌}
use mathlib.Core.Path.{◌≡◌, sym, ap, ◌∙◌, fun_ext}
use mathlib.Core.List.{List}
use native.Mathlib.Omega.{arith}
use lib.ListN.{get_or}
use Rattle.window.specs.Store.{byte_at}
use Rattle.window.specs.Window.{column}
use Rattle.window.proofs.BandedPasses.{column-is}
use Rattle.pixel.specs.declared.Pixel.{Pixel}
use Rattle.pixel.specs.Alpha.{clear}
use Rattle.filter.specs.declared.Rect.{Rect}
use Rattle.filter.specs.Rect.{canvas_of}
use Rattle.filter.specs.Accepted.{Within}
use Rattle.filter.specs.Picture.{Picture}
use Rattle.filter.specs.Valid.{BlankOutside}
use Rattle.buffers.specs.Buffers.{Loaded}
use Rattle.buffers.specs.Drawn.{Drawn}
use Rattle.buffers.specs.Strip.{strip_at, Strip}
use Rattle.buffers.proofs.DrawnRows.{drawn-new}
use Rattle.draw_window.specs.LookedAt.{LookedAt}
use Rattle.draw_window.specs.LineRules.{Rule, across_of, down_of, along_row, Worked}
use Rattle.draw_window.proofs.PixelChannels.{channel, channel-at, channel-clear, pixel-channels, pixel-bytes, across-channel, down-channel, row-channel}
use Rattle.draw_window.proofs.BandedRules.{Banded}
use Rattle.draw_window.proofs.StripRows.{strip-byte}

blank-channel : (k : ℕ) (p : Pixel) → p ≡ clear → channel k p ≡ 0
blank-channel k p e = ap (channel k) e ∙ channel-clear k

-- across a picture that is blank outside the canvas
module _ (rule : Rule) (back ahead w h : ℕ) (p : Picture) (blank : BlankOutside (canvas_of w h) p) (B : Banded rule back ahead) where
  beside : (k u y : ℕ) → w ≤ u → channel k (p u y) ≡ 0
  beside k u y l = blank-channel k (p u y) (blank.outside u y (λ i. absurd (omega (arith, i.right))))

  -- rows below the canvas stay blank
  pub across-blank : (x v : ℕ) → h ≤ v → across_of rule w p x v ≡ clear
  across-blank x v l = pixel-channels (across_of rule w p x v) clear (λ k m.
      across-channel rule w p x v k
      ∙ ap (λ (f : ℕ → ℕ). rule w f x) (fun_ext (λ u. blank-channel k (p u v) (blank.outside u v (λ i. absurd (omega (arith, i.bottom))))))
      ∙ B.zeros w x ∙ sym (channel-clear k))

  -- channel k of row y, from columns whose bytes are those of the band
  pub band-channel : (d : List ℕ) (o n i k y left right lo hi : ℕ) → LookedAt w left right back ahead lo hi → right ≤ w
      → ((j : ℕ) → j < hi - lo → byte_at d o n j i ≡ channel k (p (lo + j) y))
      → (x : ℕ) → left ≤ x → x < right → rule (hi - lo) (column d o n (hi - lo) i) (x - lo) ≡ channel k (across_of rule w p x y)
  band-channel d o n i k y left right lo hi R wide same x a b =
      ap (λ (f : ℕ → ℕ). rule (hi - lo) f (x - lo)) (column-is d o n (hi - lo) i (λ j. channel k (p (lo + j) y)) same)
      ∙ B.band w left right (λ u. channel k (p u y)) (λ u l. beside k u y l) x a b (omega arith) lo hi R.low R.high
      ∙ sym (across-channel rule w p x y k)

  -- the same of a row of pixels that was loaded
  pub band-row : (d₀ d : List ℕ) (y left right lo hi : ℕ) → LookedAt w left right back ahead lo hi → right ≤ w → Loaded p y lo hi d₀ d
      → (x at : ℕ) → left ≤ x → x < right → along_row rule d (hi - lo) (left - lo + (at + (x - left) - at)) ≡ across_of rule w p x y
  band-row d₀ d y left right lo hi R wide L x at a b = ap (along_row rule d (hi - lo)) (shown x at a (omega (arith, R.low))) ∙ pixel-channels _ _ (λ k l.
      row-channel rule d (hi - lo) (x - lo) k l
      ∙ band-channel d 0 4 k k y left right lo hi R wide (λ j m.
      let z : 0 + j * 4 + k ≡ 0 + 4 * j + k = omega arith in
      ap (λ (t : ℕ). get_or d t 0) z ∙ sym (channel-at d (0 + 4 * j) k l) ∙ ap (channel k) (L.inside j (omega arith) m)) x a b)
    where
      -- the place of column x, after those that are skipped
      shown : (x at : ℕ) → left ≤ x → lo ≤ left → left - lo + (at + (x - left) - at) ≡ x - lo
      shown x at l m = omega arith

-- down a strip of a picture that is blank below the canvas
module _ (rule : Rule) (back ahead h : ℕ) (q : Picture) (blank : (x v : ℕ) → h ≤ v → q x v ≡ clear) (B : Banded rule back ahead) where
  pub band-down : (at left right top bottom first last : ℕ) (d d' : List ℕ) → LookedAt h top bottom back ahead first last → bottom ≤ h
      → Strip q 0 left right first last d → Worked rule (4 * at) (4 * (right - left)) (last - first) d d'
      → (x y : ℕ) → left ≤ x → x < right → top ≤ y → y < bottom → strip_at d' at left right first x y ≡ down_of rule h q x y
  unfolding strip_at
  band-down at left right top bottom first last d d' R high S K x y a b c e = pixel-bytes d' _ _ (λ k l.
      let i : ℕ = 4 * (x - left) + k in
      let j : 4 * (at + (y - first) * (right - left) + (x - left)) + k ≡ 4 * at + (y - first) * (4 * (right - left)) + i = omega arith in
      ap (λ (z : ℕ). get_or d' z 0) j
      ∙ K.inside (y - first) i (omega (arith, R.low, R.high)) (omega arith)
      ∙ ap (λ (f : ℕ → ℕ). rule (last - first) f (y - first)) (column-is d 0 (4 * (right - left)) (last - first) i (λ v. channel k (q x (first + v))) (λ v m. byte k l v m))
      ∙ B.band h top bottom (λ v. channel k (q x v)) (λ v m. blank-channel k (q x v) (blank x v m)) y c e (omega arith) first last R.low R.high
      ∙ sym (down-channel rule h q x y k))
    where
      byte : (k : ℕ) → k < 4 → (v : ℕ) → v < last - first → byte_at d 0 (4 * (right - left)) v (4 * (x - left) + k) ≡ channel k (q x (first + v))
      byte k l v m =
          let s : first + v - first ≡ v = omega arith in
          rw s at (strip-byte q 0 left right first last d S x (first + v) k a b (omega arith) (omega arith) l)

-- both ways, and the strip stored
pub drawn-both : (across down : Rule) (bx ax by ay w h n : ℕ) (p new : Picture) → BlankOutside (canvas_of w h) p → Banded across bx ax → Banded down by ay
    → down_of down h (across_of across w p) ≡ new
    → (r : Rect) (at first last : ℕ) (d d' ws ws' : List ℕ) → Within w h r → LookedAt h r.top r.bottom by ay first last
    → Strip (across_of across w p) 0 r.left r.right first last d → Worked down (4 * at) (4 * (r.right - r.left)) (last - first) d d'
    → Drawn w h n r (strip_at d' at r.left r.right first) ws ws' → Drawn w h n r new ws ws'
drawn-both across down bx ax by ay w h n p new blank A D is r at first last d d' ws ws' I R S K = drawn-new w h n r _ new ws ws' (λ x y i.
    band-down down by ay h (across_of across w p) (across-blank across bx ax w h p blank A) D at r.left r.right r.top r.bottom first last d d' R I.bottom S K x y i.left i.right i.top i.bottom
    ∙ ap (λ (f : Picture). f x y) is)
