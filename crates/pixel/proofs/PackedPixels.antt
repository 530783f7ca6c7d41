-- Packed pixels taken apart again. Assumes nothing.
use mathlib.Core.Path.{◌≡◌, ap}
use Prim.Native.Nat.{ℕ, ◌+◌, ◌*◌, ◌/◌, ◌<◌}
use native.Mathlib.Omega.{arith}
use Rattle.pixel.specs.declared.Pixel.{Pixel}
use Rattle.pixel.specs.Alpha.{Bytes}
use Rattle.pixel.specs.Word.{packed, unpacked, Packed}
use Rattle.pixel.proofs.PaintedRows.{pixel-is}

pub unpacked-packed : (p : Pixel) → Bytes p → unpacked (packed p) ≡ p
unpacked-packed p h = pixel-is (unpacked (packed p)) p (omega arith) (omega arith) (omega arith) (omega arith)

-- four bytes put together
pub packed-by : (p : Pixel) (r g b a : ℕ) → (r ≡ p.r) × (r < 256) → (g ≡ p.g) × (g < 256) → (b ≡ p.b) × (b < 256) → (a ≡ p.a) × (a < 256) → Packed p (r + g * 256 + b * 65536 + a * 16777216)
packed-by p r g b a hr hg hb ha =
    let e : r + g * 256 + b * 65536 + a * 16777216 ≡ packed p = omega arith in
    record { is = e; holds = rw e (unpacked-packed p (record { r = omega arith; g = omega arith; b = omega arith; a = omega arith })) }

-- the alpha of a packed pixel
pub packed-alpha : (p : Pixel) (v : ℕ) → Packed p v → v / 16777216 ≡ p.a
packed-alpha p v h = ap (λ (q : Pixel). q.a) h.holds
