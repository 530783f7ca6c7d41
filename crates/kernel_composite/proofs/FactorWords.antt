-- Words of factors taken apart again. Assumes nothing.
use mathlib.Core.Path.{◌≡◌, ap, ◌∙◌}
use mathlib.Core.List.{List}
use Prim.Native.Nat.{ℕ, ◌+◌, ◌*◌, ◌<◌}
use native.Mathlib.Omega.{arith}
use Rattle.pixel.specs.Bytes.{Painted}
use Rattle.pixel.specs.Word.{packed, unpacked}
use Rattle.kernel_composite.specs.Factors.{twice}
use Rattle.pixel.proofs.PaintedRows.{painted-more}
use Rattle.pixel.proofs.PackedPixels.{unpacked-packed}

-- a factor in both halves of a word
pub unpacked-twice : (v : ℕ) → v < 256 → unpacked (v * 65537) ≡ twice v
unpacked-twice v h =
    let e : v * 65537 ≡ packed (twice v) = omega arith in
    rw e (unpacked-packed (twice v) (record { r = h; g = omega arith; b = h; a = omega arith }))

-- one pixel's factor more
pub factor-more : (φ : ℕ → ℕ) (v r i x : ℕ) (d₀ d d' : List ℕ) → i ≡ 4 * x → r ≡ v * 65537 → v ≡ φ x → v < 256 → Painted (λ t. twice (φ t)) 0 0 x d₀ d → Painted (λ _. unpacked r) i 0 1 d d' → Painted (λ t. twice (φ t)) 0 0 (x + 1) d₀ d'
factor-more φ v r i x d₀ d d' at er e l P Q = painted-more (λ t. twice (φ t)) _ 0 i 0 x d₀ d d' (omega arith) (omega arith) (ap unpacked er ∙ unpacked-twice v l ∙ ap twice e) P Q
