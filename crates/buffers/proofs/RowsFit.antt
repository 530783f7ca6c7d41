-- Rows lie within their pictures. Assumes nothing.
use Prim.Native.Nat.{ℕ, ◌+◌, ◌-◌, ◌*◌, ◌≤◌, ◌<◌}
use mathlib.Core.List.{List}
use native.Mathlib.Nat.{mul-le-mul_right}
use native.Mathlib.Omega.{arith}
use Rattle.window.proofs.Numbers.{line-end}
use Rattle.filter.specs.Bytes.{size}
use Rattle.buffers.specs.declared.Context.{Context}
use Rattle.buffers.specs.Buffers.{Sized}
use Rattle.buffers.specs.Context.{InLimits}

-- buffers of the right sizes are those of a small canvas
pub sized-limits : (c : Context) (src ws : List ℕ) → Sized c.w c.h c.n src ws → InLimits c
sized-limits c src ws S = record { wide = S.wide; high = S.high; steps = S.steps }

-- row y ends in the layer
pub row_ends : (w h y : ℕ) → y < h → 4 * (y * w) + 4 * w ≤ size w h
row_ends w h y l = omega (arith, mul-le-mul_right w l)

-- row y of a strip ends in it
pub strip-row-room : (y first last width : ℕ) → first ≤ y → y < last → (y - first) * width + width ≤ (last - first) * width
strip-row-room y first last width l m = line-end width (last - first) (y - first) (omega arith)
