-- Luminance to alpha: its three rows of zeros, and its row for A. Assumes nothing.
use mathlib.Core.Path.{◌≡◌, sym, ◌∙◌}
use Prim.Native.Nat.{ℕ, ◌+◌, ◌*◌, ◌/◌, ◌<◌}
use native.Mathlib.Nat.{zero-mul}
use native.Mathlib.Omega.{arith}
use lib.IntN.{pos}
use Rattle.pixel.specs.declared.Pixel.{Pixel}
use Rattle.pixel.specs.Alpha.{pixel, unpremultiplied, premultiplied, Valid}
use Rattle.pixel.specs.Matrix.{matrix_channel, luminance, by_matrix}
use Rattle.pixel.proofs.Premultiplied.{unpremultiplied-byte}
use Rattle.pixel.proofs.ByMatrix.{matrix-natural}

nothing : (r g b a : ℕ) → matrix_channel (pos 0) (pos 0) (pos 0) (pos 0) (pos 0) r g b a ≡ 0
nothing r g b a = sym (matrix-natural 0 0 0 0 0 0 0 0 0 0 r g b a) ∙ simp zero-mul

luminance-channel : (r g b a : ℕ) → r < 256 → g < 256 → b < 256
    → matrix_channel (pos 13926) (pos 46884) (pos 4725) (pos 0) (pos 0) r g b a ≡ (13926 * r + 46884 * g + (4725 * b + 32768)) / 65536
luminance-channel r g b a lr lg lb = sym (matrix-natural 13926 0 46884 0 4725 0 0 0 0 0 r g b a) ∙ simp zero-mul (omega arith)

premultiplied-zero : (a : ℕ) → premultiplied 0 a ≡ 0
premultiplied-zero a = simp zero-mul

pub luminance-pixel : (p : Pixel) (v : ℕ) → Valid p
    → v ≡ (13926 * unpremultiplied p.r p.a + 46884 * unpremultiplied p.g p.a + (4725 * unpremultiplied p.b p.a + 32768)) / 65536
    → pixel 0 0 0 v ≡ by_matrix luminance p
unfolding by_matrix luminance
luminance-pixel p v ok e =
    let r : ℕ = unpremultiplied p.r p.a in
    let g : ℕ = unpremultiplied p.g p.a in
    let b : ℕ = unpremultiplied p.b p.a in
    let n = nothing r g b p.a in
    let w = luminance-channel r g b p.a (unpremultiplied-byte p.r p.a ok.r) (unpremultiplied-byte p.g p.a ok.g) (unpremultiplied-byte p.b p.a ok.b) in
    rw (n, w, premultiplied-zero, e)
