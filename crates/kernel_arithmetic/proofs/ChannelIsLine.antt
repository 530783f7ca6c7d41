-- A channel of the arithmetic composite as a straight line in the second byte. Assumes nothing.
use Prim.Native.Nat.{ℕ, ◌+◌, ◌-◌, ◌*◌, ◌/◌, min}
use mathlib.Core.Path.{◌≡◌, ◌∙◌, ap₂}
use native.Mathlib.Nat.{add-mul, mul_assoc}
use native.Mathlib.Omega.{arith}
use lib.IntN.{sub_ℕ}
use Rattle.pixel.specs.Arithmetic.{arithmetic_channel}
use Rattle.kernel_arithmetic.specs.Code.{level}
use Rattle.pixel.proofs.ByArithmetic.{arithmetic-natural}

line : (k1 k2 k3 k4 x y : ℕ) → (k1 * x + 255 * k3) * y + (255 * (k2 * x) + 65025 * k4) ≡ k1 * x * y + 255 * (k2 * x + k3 * y) + 65025 * k4
line k1 k2 k3 k4 x y = omega (arith, add-mul (k1 * x) (255 * k3) y, mul_assoc 255 k3 y)

pub level-law : (u1 d1 u2 d2 u3 d3 u4 d4 x y : ℕ)
    → level (u1 * x + 255 * u3) (255 * (u2 * x) + 65025 * u4 + 8355840) (d1 * x + 255 * d3) (255 * (d2 * x) + 65025 * d4) y
    ≡ arithmetic_channel (sub_ℕ u1 d1) (sub_ℕ u2 d2) (sub_ℕ u3 d3) (sub_ℕ u4 d4) x y
level-law u1 d1 u2 d2 u3 d3 u4 d4 x y =
    ap₂ (λ (m n : ℕ). min ((m - n) / 16711680) 255) (omega (arith, line u1 u2 u3 u4 x y)) (line d1 d2 d3 d4 x y)
    ∙ arithmetic-natural u1 d1 u2 d2 u3 d3 u4 d4 x y
