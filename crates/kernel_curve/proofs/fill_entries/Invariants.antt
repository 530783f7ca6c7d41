use Rattle.std.proofs.Common.{◌≡◌, ℕ, ◌+◌, ◌<◌, get_or}
use Rattle.kernel_curve.specs.Channel.{value_at}
use Rattle.kernel_curve.proofs.fill_entries.Given as goal

abbrev pub invariant-loop-k : goal.invariant-loop-k
invariant-loop-k l = (j : ℕ) → j < l.k → get_or l.entries j 0 ≡ (value_at l.values (l.first + j)).above
