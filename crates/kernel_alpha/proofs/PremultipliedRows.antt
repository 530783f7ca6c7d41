-- Premultiply: a row of factors against pixels. Assumes nothing.
use mathlib.Core.Path.{◌≡◌, ap, ◌∙◌}
use mathlib.Core.List.{List}
use Prim.Native.Nat.{ℕ, ◌+◌, ◌-◌, ◌*◌, ◌/◌, ◌%◌, ◌<◌}
use native.Mathlib.Nat.{add-mul-mod_self_right, mod-eq_of_lt}
use native.Mathlib.Omega.{arith}
use lib.ListN.{length, get_or}
use Rattle.window.specs.Store.{Filled}
use Rattle.pixel.specs.declared.Pixel.{Pixel}
use Rattle.pixel.specs.Alpha.{premultiplied}
use Rattle.pixel.specs.Bytes.{pixel_at, Painted}
use Rattle.pixel.specs.Word.{unpacked}
use Rattle.kernel_alpha.specs.Premultiplied.{premultiplied_pixel}
use Rattle.kernel_alpha.specs.Code.{factors}
use Rattle.pixel.proofs.PaintedRows.{pixel-is, pixel-by}

opaque : (a : ℕ) → premultiplied a 255 ≡ a
opaque a = omega arith

low_byte : (n q a : ℕ) → n ≡ a + q * 256 → a < 256 → n % 256 ≡ a
low_byte n q a e l = rw (e, add-mul-mod_self_right a q 256) (mod-eq_of_lt l)

-- the four bytes of a word are an alpha three times, and 255
plain-factors : (a : ℕ) → a < 256
    → unpacked (a * 65793 + 4278190080) ≡ factors a
plain-factors a l =
    let w : ℕ = a * 65793 + 4278190080 in
    let e0 : w % 256 ≡ a = low_byte w (a * 257 + 16711680) a (omega arith) l in
    let e1 : w / 256 % 256 ≡ a = low_byte (w / 256) (a + 65280) a (omega arith) l in
    let e2 : w / 65536 % 256 ≡ a = low_byte (w / 65536) 255 a (omega arith) l in
    let e3 : w / 16777216 ≡ 255 = omega arith in
    pixel-is _ (factors a) e0 e1 e2 e3

pub word-factors : (a v : ℕ) → a < 256 → v ≡ a * 16843009 + (255 - a) * 16777216 → unpacked v ≡ factors a
word-factors a v l e = let q : v ≡ a * 65793 + 4278190080 = omega arith in rw q (plain-factors a l)

-- bytes scaled by the row of factors are pixels premultiplied
pub premultiplied-row : (d f₀ f d' : List ℕ) (n : ℕ) → length d ≡ 4 * n
    → Painted (λ x. factors (get_or d (4 * x + 3) 0)) 0 0 n f₀ f
    → Filled (λ i. premultiplied (get_or d i 0) (get_or f i 0)) 0 (length d) d d'
    → Painted (λ x. premultiplied_pixel (pixel_at d (4 * x))) 0 0 n d d'
unfolding premultiplied_pixel
premultiplied-row d f₀ f d' n long P F = record {
  inside = λ x lo hi.
      let z : 0 + 4 * x ≡ 4 * x = omega arith in
      let p : pixel_at f (4 * x) ≡ factors (get_or d (4 * x + 3) 0) = rw z at (P.inside x lo hi) in
      let scaled : (i a : ℕ) → i < length d → get_or f i 0 ≡ a → get_or d' i 0 ≡ premultiplied (get_or d i 0) a
      = λ i a l e. F.inside i (omega arith) l ∙ ap (premultiplied (get_or d i 0)) e in
      rw z (pixel-by d' (4 * x) (premultiplied_pixel (pixel_at d (4 * x)))
      (scaled (4 * x) _ (omega arith) (ap (λ (q : Pixel). q.r) p))
      (scaled (4 * x + 1) _ (omega arith) (ap (λ (q : Pixel). q.g) p))
      (scaled (4 * x + 2) _ (omega arith) (ap (λ (q : Pixel). q.b) p))
      (scaled (4 * x + 3) _ (omega arith) (ap (λ (q : Pixel). q.a) p) ∙ opaque (get_or d (4 * x + 3) 0)));
  before = λ i h. absurd (omega arith);
  after = λ i h. F.after i (omega arith);
  long = F.long;
}
