use Rattle.std.proofs.Common.{ℕ, ◌*◌, ◌≤◌}
use Rattle.number.specs.Number.{value}
use Rattle.pixel.specs.Convolve.{sum}
use Rattle.pixel.proofs.SignedSums.{Diff}
use Rattle.kernel_lines.specs.Convolved.{value_at}
use Rattle.kernel_lines.proofs.kernel.Kernel.total.Given as goal

abbrev pub invariant-loop-v : goal.invariant-loop-v
invariant-loop-v l = record {
  is_sum : Diff (sum l.v-index (λ (j : ℕ). value (value_at l.self.values j))) l.above l.below;
  few_above : l.above ≤ 16777216 * l.v-index;
  few_below : l.below ≤ 16777216 * l.v-index;
}
