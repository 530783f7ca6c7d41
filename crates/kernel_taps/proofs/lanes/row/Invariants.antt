use Rattle.std.proofs.Common.{◌≡◌, ◌*◌, ◌≤◌}
use Rattle.kernel_taps.specs.Lanes.{row_total}
use Rattle.kernel_taps.proofs.lanes.row.Given as goal

abbrev pub invariant-loop-j : goal.invariant-loop-j
invariant-loop-j g l = record {
  is_total : l.sum ≡ row_total l.j l.weights l.first l.lines l.at;
  small : l.sum ≤ 16711425 * l.j;
}
