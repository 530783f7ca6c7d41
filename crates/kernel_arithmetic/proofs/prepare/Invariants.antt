use mathlib.Core.Path.{◌≡◌}
use Prim.Native.Nat.{ℕ, ◌+◌, ◌*◌, ◌≤◌, ◌<◌}
use lib.ListN.{length, get_or}
use Rattle.pixel.specs.Arithmetic.{channel_of}
use Rattle.kernel_arithmetic.proofs.prepare.Given as goal

abbrev pub invariant-loop-i : goal.invariant-loop-i
invariant-loop-i l = (l.i ≤ 256) × (length l.table ≡ 65536) × ((x y : ℕ) → x < l.i → y < 256 → get_or l.table (256 * x + y) 0 ≡ channel_of l.k x y)
