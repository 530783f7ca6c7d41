-- A strip of a picture, row by row, and its bytes as lines. Assumes nothing.
use Prim.Native.Nat.{ℕ, ◌+◌, ◌-◌, ◌*◌, ◌/◌, ◌≤◌, ◌<◌}
use mathlib.Core.Path.{◌≡◌, sym, ap, ◌∙◌}
use mathlib.Core.List.{List}
use mathlib.Core.Logic.{◌⊎◌, ⊎_elim}
use native.Mathlib.Nat.{mul-le-mul, mul-le-mul_right}
use native.Mathlib.Omega.{arith}
use lib.ListN.{get_or}
use Rattle.window.specs.Store.{byte_at}
use Rattle.window.proofs.Store.{lt-or-le}
use Rattle.pixel.specs.declared.Pixel.{Pixel}
use Rattle.pixel.specs.Bytes.{pixel_at, Painted}
use Rattle.pixel.proofs.PaintedRows.{pixel-same}
use Rattle.filter.specs.Picture.{Picture}
use Rattle.buffers.specs.Strip.{strip_at, Strip}
use Rattle.draw_window.specs.LookedAt.{LookedAt}
use Rattle.draw_window.proofs.PixelChannels.{channel, channel-at}

pub strip-none : (q : Picture) (at left right first : ℕ) (d : List ℕ) → Strip q at left right first first d
strip-none q at left right first d = record { same = λ x y a b c e. absurd (omega arith) }

-- rows more: those before are left, and those from y on are there
pub strip-more : (q : Picture) (at left right first y last : ℕ) (d d' : List ℕ) → first ≤ y → Strip q at left right first y d
    → ((i : ℕ) → i < 4 * (at + (y - first) * (right - left)) → get_or d' i 0 ≡ get_or d i 0)
    → ((x v : ℕ) → left ≤ x → x < right → y ≤ v → v < last → pixel_at d' (4 * (at + (v - first) * (right - left) + (x - left))) ≡ q x v)
    → Strip q at left right first last d'
unfolding strip_at
strip-more q at left right first y last d d' from S kept new = record {
  same = λ x v a b c e. ⊎_elim
      (λ l.
      let i : ℕ = 4 * (at + (v - first) * (right - left) + (x - left)) in
      let k : v - first < y - first = omega arith in
      pixel-same d' d i i (λ z m. kept (i + z) (omega (arith, mul-le-mul_right (right - left) k))) ∙ S.same x v a b c l)
      (λ l. new x v a b l e)
      (lt-or-le v y);
}

-- one row more
pub strip-row : (q : Picture) (at left right first y : ℕ) (d d' : List ℕ) → first ≤ y → Strip q at left right first y d
    → ((i : ℕ) → i < 4 * (at + (y - first) * (right - left)) → get_or d' i 0 ≡ get_or d i 0)
    → ((x : ℕ) → left ≤ x → x < right → pixel_at d' (4 * (at + (y - first) * (right - left) + (x - left))) ≡ q x y)
    → Strip q at left right first (y + 1) d'
strip-row q at left right first y d d' from S kept new = strip-more q at left right first y (y + 1) d d' from S kept
    (λ x v a b c e. let s : v ≡ y = omega arith in rw s (new x a b))

-- one row more, painted in place
pub strip-painted : (q : Picture) (f : ℕ → Pixel) (left right first y at : ℕ) (d d' : List ℕ) → first ≤ y → at ≡ (y - first) * (right - left) → Strip q 0 left right first y d
    → Painted f 0 at (at + (right - left)) d d' → ((x : ℕ) → left ≤ x → x < right → f (at + (x - left)) ≡ q x y) → Strip q 0 left right first (y + 1) d'
strip-painted q f left right first y at d d' from place S P same = strip-row q 0 left right first y d d' from S
    (λ i l. P.before i (omega arith))
    (λ x a b.
    let e : 4 * (0 + (y - first) * (right - left) + (x - left)) ≡ 0 + 4 * (at + (x - left)) = omega arith in
    ap (pixel_at d') e ∙ P.inside (at + (x - left)) (omega arith) (omega arith) ∙ same x a b)

-- the place of a result that starts in one of two halves, counted in pixels
pub whole-pixels : (r s : ℕ) → (r ≡ 0) ⊎ (r ≡ 4 * s) → 4 * (r / 4) ≡ r
whole-pixels r s = ⊎_elim (λ e. omega arith) (λ e. omega arith)

-- the rows that are looked at hold those that are wanted, and lie on the canvas
pub looked-at-in : (n from to back ahead lo hi : ℕ) → LookedAt n from to back ahead lo hi → from < to → to ≤ n → (lo ≤ from) × (to ≤ hi) × (hi ≤ n)
looked-at-in n from to back ahead lo hi R a b = (omega (arith, R.low), omega (arith, R.high), omega (arith, R.high))

-- a strip is no larger than the canvas
pub strip-area : (w h left right top bottom : ℕ) → right ≤ w → bottom ≤ h → (bottom - top) * (right - left) ≤ w * h
strip-area w h left right top bottom a b =
    let l : bottom - top ≤ h = omega arith in
    let m : right - left ≤ w = omega arith in
    omega (arith, mul-le-mul l m)

-- a byte of a strip
pub strip-byte : (q : Picture) (at left right first last : ℕ) (d : List ℕ) → Strip q at left right first last d
    → (x y k : ℕ) → left ≤ x → x < right → first ≤ y → y < last → k < 4 → byte_at d (4 * at) (4 * (right - left)) (y - first) (4 * (x - left) + k) ≡ channel k (q x y)
unfolding strip_at
strip-byte q at left right first last d S x y k a b c e l =
    let i : ℕ = 4 * (at + (y - first) * (right - left) + (x - left)) in
    let j : 4 * at + (y - first) * (4 * (right - left)) + (4 * (x - left) + k) ≡ i + k = omega arith in
    ap (λ (z : ℕ). get_or d z 0) j ∙ sym (channel-at d i k l) ∙ ap (channel k) (S.same x y a b c e)
