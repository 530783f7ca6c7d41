-- Bytes against the pictures that they hold: they determine one another. Assumes nothing.
use Prim.Native.Nat.{ℕ, zero, suc, ◌+◌, ◌*◌, ◌/◌, ◌%◌, ◌<◌}
use mathlib.Core.Path.{◌≡◌, sym, ◌∙◌, ap, fun_ext}
use mathlib.Core.List.{List}
use native.Mathlib.Nat.{add-zero, zero-add, mul_comm, div-add-mod', div-lt_iff_lt-mul, mod-lt}
use native.Mathlib.Omega.{arith}
use lib.ListN.{length, get_or}
use lib.Seq.{ext_get_or}
use Rattle.pixel.specs.declared.Pixel.{Pixel}
use Rattle.pixel.specs.Bytes.{pixel_at}
use Rattle.filter.specs.declared.Rect.{Rect}
use Rattle.filter.specs.Rect.{In, canvas_of}
use Rattle.filter.specs.Picture.{Picture}
use Rattle.filter.specs.Valid.{BlankOutside}
use Rattle.filter.specs.Bytes.{size, read, Holds}
use Rattle.filter.specs.SameOutside.{SameOutside}
use Rattle.filter.proofs.PlacesInRects.{in?}
use Rattle.filter.proofs.Patches.{patch-in, patch-out}

-- a byte of two equal pixels
byte-same : (s t : List ℕ) (i c : ℕ) → c < 4 → pixel_at s i ≡ pixel_at t i → get_or s (i + c) 0 ≡ get_or t (i + c) 0
byte-same s t i zero h e = rw add-zero (ap (λ (p : Pixel). p.r) e)
byte-same s t i (suc zero) h e = ap (λ (p : Pixel). p.g) e
byte-same s t i (suc (suc zero)) h e = ap (λ (p : Pixel). p.b) e
byte-same s t i (suc (suc (suc zero))) h e = ap (λ (p : Pixel). p.a) e
byte-same s t i (suc (suc (suc (suc c)))) h e = absurd (omega arith)

factor-pos : {i : ℕ} (a b : ℕ) → i < a * b → 0 < b
factor-pos a zero h = absurd (omega arith)
factor-pos a (suc b) h = omega arith

-- where byte i of the pictures stands: picture, column, row, channel
record Position (w h count i : ℕ) : Type 0 where
  n : ℕ
  x : ℕ
  y : ℕ
  c : ℕ
  n_fits : n < count
  x_fits : x < w
  y_fits : y < h
  c_fits : c < 4
  is : n * size w h + 4 * (y * w + x) + c ≡ i

position_of : (w h count i : ℕ) → i < count * size w h → Position w h count i
position_of w h count i l =
    let s : ℕ = size w h in
    let s-pos : 0 < s = factor-pos count s l in
    let j : ℕ = i % s in
    let q : ℕ = j / 4 in
    let j-fits : j < s = mod-lt i s-pos in
    let q-fits : q < h * w = omega (arith, mul_comm w h) in
    let w-pos : 0 < w = factor-pos h w q-fits in
    record {
      n = i / s;
      x = q % w;
      y = q / w;
      c = j % 4;
      n_fits = (div-lt_iff_lt-mul s-pos).1 l;
      x_fits = mod-lt q w-pos;
      y_fits = (div-lt_iff_lt-mul w-pos).1 q-fits;
      c_fits = omega arith;
      is = omega (arith, div-add-mod' i s, div-add-mod' q w);
    }

-- bytes that hold the same pictures are the same
pub holds-unique : (w h count : ℕ) (s t : List ℕ) (p q : ℕ → Picture) → Holds w h count s p → Holds w h count t q
    → ((n : ℕ) → n < count → p n ≡ q n) → s ≡ t
holds-unique w h count s t p q hs ht e = ext_get_or 0 s t (hs.long ∙ sym ht.long) each
  where
    go : (i : ℕ) → Position w h count i → get_or s i 0 ≡ get_or t i 0
    go i k =
        rw (← k.is)
        (byte-same s t _ k.c k.c_fits
        (hs.same k.n k.x k.y k.n_fits k.x_fits k.y_fits
        ∙ ap (λ (f : Picture). f k.x k.y) (e k.n k.n_fits)
        ∙ sym (ht.same k.n k.x k.y k.n_fits k.x_fits k.y_fits)))

    each : (i : ℕ) → i < length s → get_or s i 0 ≡ get_or t i 0
    each i l = go i (position_of w h count i (rw hs.long at l))

pub read-blank : (w h : ℕ) (d : List ℕ) (o : ℕ) → BlankOutside (canvas_of w h) (read w h d o)
unfolding read
read-blank w h d o = record { outside = λ x y out. patch-out _ _ _ out }

-- inside the canvas, read is the pixel that stands there
pub read-pixel : (w h : ℕ) (d : List ℕ) (o x y : ℕ) → x < w → y < h → read w h d o x y ≡ pixel_at d (o + 4 * (y * w + x))
unfolding read
read-pixel w h d o x y lx ly = patch-in _ _ _ (record { left = omega arith; right = omega arith; top = omega arith; bottom = omega arith })

-- what the bytes hold is what is read there
pub holds_read : (w h count : ℕ) (d : List ℕ) (p : ℕ → Picture) → Holds w h count d p → (n : ℕ) → n < count
    → BlankOutside (canvas_of w h) (p n) → read w h d (n * size w h) ≡ p n
holds_read w h count d p hd n l b = fun_ext λ x. fun_ext λ y. go x y (in? (canvas_of w h) x y)
  where
    go : (x y : ℕ) → Dec (In (canvas_of w h) x y) → read w h d (n * size w h) x y ≡ p n x y
    go x y (yes t) = read-pixel w h d _ x y (omega arith) (omega arith) ∙ hd.same n x y l (omega arith) (omega arith)
    go x y (no t) = (read-blank w h d _).outside x y t ∙ sym (b.outside x y t)

-- sources that differ inside the rectangle only, as pictures
pub read-outside : (w h : ℕ) (r : Rect) (s t : List ℕ) → SameOutside w h r s t → (x y : ℕ) → ¬ In r x y → read w h s 0 x y ≡ read w h t 0 x y
read-outside w h r s t e x y out = go (in? (canvas_of w h) x y)
  where
    go : Dec (In (canvas_of w h) x y) → read w h s 0 x y ≡ read w h t 0 x y
    go (yes k) = read-pixel w h s 0 x y (omega arith) (omega arith) ∙ rw zero-add (e.same x y (omega arith) (omega arith) out) ∙ sym (read-pixel w h t 0 x y (omega arith) (omega arith))
    go (no k) = (read-blank w h s 0).outside x y k ∙ sym ((read-blank w h t 0).outside x y k)
