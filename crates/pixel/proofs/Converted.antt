-- A converted pixel is of bytes and valid; transparent black and the source's alpha stay as they are. Assumes nothing.
use Prim.Native.Nat.{ℕ, ◌≤◌, ◌<◌, ◌+◌, ◌*◌, ◌/◌}
use mathlib.Core.Path.{◌≡◌, refl, ap}
use mathlib.Core.Bool.{Bool, true, false, cond}
use native.Mathlib.Omega.{arith}
use lib.Dec.{eqb}
use lib.ListN.{get_or}
use borrow.Author.Tests.{eqb-false}
use native.Mathlib.Nat.{div-lt_iff_lt-mul, le-div_iff_mul-le}
use Rattle.pixel.specs.declared.Pixel.{Pixel}
use Rattle.pixel.specs.declared.Space as S
use Rattle.pixel.specs.Alpha.{Valid, Bytes, clear, pixel, premultiplied, unpremultiplied}
use Rattle.pixel.specs.Remap.{remapped}
use Rattle.pixel.specs.Space.{table_of, space_maps}
use Rattle.pixel.specs.Convert.{differ?, pair_of, converted}
use Rattle.pixel.proofs.Remapped.{remapped-valid, remapped-bytes}
use Rattle.pixel.proofs.SpaceTables.{space-bytes, table-zero, table-past}

pub converted-valid : (s t : S.Space) (p : Pixel) → Valid p → Valid (converted s t p)
unfolding converted
converted-valid s t p v = go (differ? s t)
  where
    go : (b : Bool) → Valid (cond b (remapped (space_maps t) p) p)
    go true = remapped-valid (space_maps t) (space-bytes t) p v
    go false = v

pub converted-bytes : (s t : S.Space) (p : Pixel) → Valid p → Bytes p → Bytes (converted s t p)
unfolding converted
converted-bytes s t p v b = go (differ? s t)
  where
    go : (b : Bool) → Bytes (cond b (remapped (space_maps t) p) p)
    go true = remapped-bytes (space_maps t) (space-bytes t) p v b.a
    go false = b

-- no colour stays no colour, at every alpha
no-colour : (a : ℕ) → unpremultiplied 0 a ≡ 0
no-colour a = go (eqb a 0) refl
  where
    go : (t : Bool) → eqb a 0 ≡ t → cond t 0 ((255 * 0 + a / 2) / a) ≡ 0
    go true e = refl
    go false e = let p : 0 < a = omega (arith, eqb-false a 0 e) in let q : (255 * 0 + a / 2) / a < 1 = (div-lt_iff_lt-mul p).1 (omega arith) in omega arith

pub pair-zero : (s : S.Space) (a : ℕ) → pair_of s 0 a ≡ 0
pair-zero s a = rw (no-colour a, table-zero s) (omega arith)

-- a colour above its alpha becomes 0
pub pair-above : (s : S.Space) (c a : ℕ) → a < c → a < 256 → pair_of s c a ≡ 0
pair-above s c a l b = go (eqb a 0) refl
  where
    go : (t : Bool) → eqb a 0 ≡ t → premultiplied (get_or (table_of s) (cond t 0 ((255 * c + a / 2) / a)) 0) a ≡ 0
    go true e = rw (table-zero s) (omega arith)
    go false e =
        let p : 0 < a = omega (arith, eqb-false a 0 e) in
        let h : 256 ≤ (255 * c + a / 2) / a = (le-div_iff_mul-le p).1 (omega arith) in rw (table-past s _ h) (omega arith)

-- so the source's alpha, and transparent black, are the same in both spaces
pub converted-alpha : (s t : S.Space) (a : ℕ) → converted s t (pixel 0 0 0 a) ≡ pixel 0 0 0 a
unfolding converted remapped
converted-alpha s t a = go (differ? s t)
  where
    go : (b : Bool) → cond b (remapped (space_maps t) (pixel 0 0 0 a)) (pixel 0 0 0 a) ≡ pixel 0 0 0 a
    go true = ap (λ (c : ℕ). pixel c c c a) (pair-zero t a)
    go false = refl

pub converted-clear : (s t : S.Space) → converted s t clear ≡ clear
converted-clear s t = converted-alpha s t 0

-- a pixel of the other space
pub converted-pairs : (s t : S.Space) (p : Pixel) → differ? s t ≡ true → converted s t p ≡ pixel (pair_of t p.r p.a) (pair_of t p.g p.a) (pair_of t p.b p.a) p.a
unfolding converted remapped
converted-pairs s t p e = rw e refl

pub converted-same : (s t : S.Space) (p : Pixel) → differ? s t ≡ false → converted s t p ≡ p
unfolding converted
converted-same s t p e = rw e refl
