-- A word's alpha taken apart again. Assumes nothing.
use Rattle.std.proofs.Common.{◌≡◌, ℕ, ◌*◌, ◌/◌, ◌<◌, arith}
use Rattle.pixel.specs.declared.Pixel.{Pixel}
use Rattle.pixel.specs.Word.{packed, unpacked, Packed}
use Rattle.kernel_row.specs.Row.{alpha_only}
use Rattle.pixel.proofs.PackedPixels.{unpacked-packed, packed-alpha}

-- a word's alpha, its colours dropped
pub unpacked-alpha : (p : Pixel) (v : ℕ) → v < 4294967296 → Packed p v → unpacked (v / 16777216 * 16777216) ≡ alpha_only p
unpacked-alpha p v l h =
    let e : v / 16777216 * 16777216 ≡ packed (alpha_only p) = omega (arith, packed-alpha p v h) in
    rw e (unpacked-packed (alpha_only p) (record { r = omega arith; g = omega arith; b = omega arith; a = omega (arith, packed-alpha p v h) }))
