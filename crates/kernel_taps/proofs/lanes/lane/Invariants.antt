use Rattle.std.proofs.Common.{◌≡◌, ◌*◌, ◌≤◌}
use Rattle.kernel_taps.proofs.RowTotals.{lines_total}
use Rattle.kernel_taps.proofs.lanes.lane.Given as goal

abbrev pub invariant-loop-i : goal.invariant-loop-i
invariant-loop-i g l = record {
  is_total : l.sum ≡ lines_total l.i g.row.N l.weights l.lines l.at;
  small : l.sum ≤ 83557125 * l.i;
}
