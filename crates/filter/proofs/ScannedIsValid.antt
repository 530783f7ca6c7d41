-- Check 14: a buffer in which no pixel is found invalid holds valid pictures. Assumes nothing.
use Prim.Native.Nat.{ℕ, zero, suc, ◌+◌, ◌*◌, ◌≤◌, ◌<◌}
use mathlib.Core.Path.{◌≡◌, refl}
use mathlib.Core.Bool.{Bool, true, false, cond, ◌&&◌}
use mathlib.Core.List.{List}
use native.Mathlib.Nat.{zero-add, suc-mul, mul_comm, mul_left_comm, mul-le-mul_right}
use native.Mathlib.Decide.{dec_lt}
use native.Mathlib.Omega.{arith}
use lib.Dec.{ltb, leb}
use lib.ListN.{get_or}
use borrow.Author.Tests.{ltb-true, ltb-false, leb-true}
use Rattle.pixel.specs.declared.Pixel.{Pixel}
use Rattle.pixel.specs.Alpha.{Valid, Bytes}
use Rattle.pixel.specs.Bytes.{pixel_at, valid?, first_invalid}
use Rattle.filter.specs.Rect.{In, canvas_of}
use Rattle.filter.specs.Valid.{ValidPicture}
use Rattle.filter.specs.Bytes.{size, read}
use Rattle.filter.proofs.PlacesInRects.{in?}
use Rattle.filter.proofs.ReadPictures.{read-blank, read-pixel}
use Rattle.filter.proofs.Earlier.{both_true}
use Rattle.filter.proofs.Validity.{clear-bytes, clear-valid}

pub valid-true : (p : Pixel) → valid? p ≡ true → Valid p
valid-true p e =
    let s = both_true (leb p.r p.a) (leb p.g p.a && leb p.b p.a) e in
    let t = both_true (leb p.g p.a) (leb p.b p.a) s.1 in
    record { r = leb-true _ _ s.0; g = leb-true _ _ t.0; b = leb-true _ _ t.1 }

pub scan-le : (d : List ℕ) (n : ℕ) → first_invalid d n ≤ n
unfolding first_invalid
scan-le d zero = omega arith
scan-le d (suc n) = go (ltb (first_invalid d n) n) (valid? (pixel_at d (4 * n))) (scan-le d n)
  where
    go : (a b : Bool) → first_invalid d n ≤ n → cond a (first_invalid d n) (cond b (suc n) n) ≤ suc n
    go true b h = omega arith
    go false true h = omega arith
    go false false h = omega arith

-- the first invalid of n pixels is n where there is none
pub scan-valid : (d : List ℕ) (n : ℕ) → first_invalid d n ≡ n → (p : ℕ) → p < n → Valid (pixel_at d (4 * p))
unfolding first_invalid
scan-valid d zero e p l = absurd (omega arith)
scan-valid d (suc n) e p l = go (ltb (first_invalid d n) n) (valid? (pixel_at d (4 * n))) refl refl e (scan-valid d n)
  where
    go : (a b : Bool) → ltb (first_invalid d n) n ≡ a → valid? (pixel_at d (4 * n)) ≡ b → cond a (first_invalid d n) (cond b (suc n) n) ≡ suc n
        → (first_invalid d n ≡ n → (q : ℕ) → q < n → Valid (pixel_at d (4 * q))) → Valid (pixel_at d (4 * p))
    go true b s t q ih = absurd (omega (arith, ltb-true (first_invalid d n) n s))
    go false false s t q ih = absurd (omega arith)
    go false true s t q ih = elim (dec_lt p n) [ yes m ↦ ih (omega (arith, ltb-false (first_invalid d n) n s, scan-le d n)) p m | no m ↦ (let z : p ≡ n = omega arith in rw z (valid-true _ t)) ]

-- bytes, and no colour above its alpha in the pixels of the picture
pub read-valid : (w h : ℕ) (d : List ℕ) (o : ℕ) → ((i : ℕ) → get_or d i 0 < 256) → ((p : ℕ) → p < w * h → Valid (pixel_at d (o + 4 * p)))
    → ValidPicture (read w h d o)
read-valid w h d o small ok = record { bytes = λ x y. byte x y (in? (canvas_of w h) x y); valid = λ x y. below x y (in? (canvas_of w h) x y) }
  where
    byte : (x y : ℕ) → Dec (In (canvas_of w h) x y) → Bytes (read w h d o x y)
    byte x y (yes k) = rw (read-pixel w h d o x y (omega arith) (omega arith)) (record { r = small _; g = small _; b = small _; a = small _ })
    byte x y (no k) = rw ((read-blank w h d o).outside x y k) clear-bytes

    below : (x y : ℕ) → Dec (In (canvas_of w h) x y) → Valid (read w h d o x y)
    below x y (yes k) = rw (read-pixel w h d o x y (omega arith) (omega arith)) (ok (y * w + x) (omega (arith, suc-mul y w, mul_comm w h, mul-le-mul_right w k.bottom)))
    below x y (no k) = rw ((read-blank w h d o).outside x y k) clear-valid

-- the source, and layer n of a workspace of count pictures
pub scan_source : (w h : ℕ) (d : List ℕ) → ((i : ℕ) → get_or d i 0 < 256) → first_invalid d (w * h) ≡ w * h → ValidPicture (read w h d 0)
scan_source w h d small e = read-valid w h d 0 small λ p l. rw zero-add (scan-valid d (w * h) e p l)

pub scan-layer : (w h count : ℕ) (d : List ℕ) → ((i : ℕ) → get_or d i 0 < 256) → first_invalid d (count * (w * h)) ≡ count * (w * h) → (n : ℕ)
    → n < count → ValidPicture (read w h d (n * size w h))
scan-layer w h count d small e n l = read-valid w h d (n * size w h) small λ p k.
    let i : n * size w h + 4 * p ≡ 4 * (n * (w * h) + p) = omega (arith, mul_left_comm n 4 (w * h)) in
    rw i (scan-valid d (count * (w * h)) e (n * (w * h) + p) (omega (arith, suc-mul n (w * h), mul-le-mul_right (w * h) l)))
