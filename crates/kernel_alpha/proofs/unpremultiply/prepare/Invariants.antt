use Rattle.std.proofs.Common.{◌≡◌, ℕ, ◌*◌, ◌/◌, ◌<◌, get_or}
use Rattle.kernel_alpha.specs.Tables.{ceiling}
use Rattle.kernel_alpha.proofs.unpremultiply.prepare.Given as goal

abbrev pub invariant-loop-a : goal.invariant-loop-a
invariant-loop-a l = (k : ℕ) → k < l.a → get_or l.scale k 0 ≡ ceiling 16711680 k

abbrev pub invariant-loop-a-2 : goal.invariant-loop-a-2
invariant-loop-a-2 l = (k : ℕ) → k < l.a → get_or l.half k 0 ≡ ceiling (k / 2 * 65536) k
