use Rattle.std.proofs.Common.{◌≡◌, ◌≤◌, not}
use Rattle.kernel_row.specs.Code.{all_valid?, marked?}
use Rattle.kernel_row.proofs.scan.any_exceeds.Given as goal

abbrev pub invariant-loop-x : goal.invariant-loop-x
invariant-loop-x l = (l.x ≤ l.n) × (marked? l.marks ≡ not (all_valid? l.s l.x))
