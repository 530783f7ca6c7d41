-- `plans::check_canvas` meets its contract: sides below 65,536 make products that fit. Assumes nothing.
use Prim.Native.Nat.{ℕ, ◌*◌, ◌≤◌, ◌<◌}
use native.Mathlib.Nat.{mul-le-mul}
use native.Mathlib.Omega.{arith}
use Rattle.filter.specs.Limits.{most_steps}
use Rattle.plans.proofs.check_canvas.Goals as goal

area : (w h : ℕ) → w < 65536 → h < 65536 → w * h ≤ 65535 * 65535
area w h l m = mul-le-mul {n₁ = w} {m₁ = h} {n₂ = 65535} {m₂ = 65535} (omega arith) (omega arith)

bytes : (n w h : ℕ) → n ≤ most_steps → w < 65536 → h < 65536 → n * (4 * (w * h)) ≤ most_steps * (4 * (65535 * 65535))
bytes n w h k l m = mul-le-mul {n₁ = n} {m₁ = 4 * (w * h)} {n₂ = most_steps} {m₂ = 4 * (65535 * 65535)} k (omega (arith, area w h l m))

pub overflow_mul-size : goal.overflow_mul-size
overflow_mul-size c = omega (arith, area c.args.w c.args.h c.requires.0 c.requires.1)

pub overflow_mul-size-2 : goal.overflow_mul-size-2
overflow_mul-size-2 c = omega (arith, area c.args.w c.args.h c.requires.0 c.requires.1)

pub overflow_mul-count : goal.overflow_mul-count
overflow_mul-count c = omega (arith, bytes c.args.count c.args.w c.args.h c.requires.2 c.requires.0 c.requires.1)

pub overflow_mul-size-3 : goal.overflow_mul-size-3
overflow_mul-size-3 c = omega (arith, area c.args.w c.args.h c.requires.0 c.requires.1)
