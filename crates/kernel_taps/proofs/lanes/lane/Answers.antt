-- `kernel_taps::lanes::lane` meets its contract: one line more in each turn. Assumes nothing.
use Rattle.std.proofs.Common.{arith, ◌∙◌, ap, ◌≡◌}
use Rattle.kernel_taps.specs.Lanes.{finished}
use Rattle.kernel_taps.proofs.RowTotals.{lines-none, lines-more, lines-all}
use Rattle.kernel_taps.proofs.lanes.lane.Goals as goal

pub loop-i-init : goal.loop-i-init
loop-i-init g c = record { is_total = lines-none _ _ _ _; small = omega arith }

pub loop-i-preserved : goal.loop-i-preserved
loop-i-preserved g c =
    let a = c.args in
    let L = c.loop-i in
    record {
      is_total = lines-more L.i g.row.N L.sum c.row-sum.result a.weights a.lines.now a.at L.invariant.is_total c.row-sum.ensures.0;
      small = omega (arith, L.invariant.small, c.row-sum.ensures.1, c.requires.0);
    }

pub returns : goal.returns
returns g c =
    let a = c.args in
    let all : c.loop-i.i ≡ g.row.N = omega arith in
    c.byte.ensures ∙ ap (finished a.finish) (lines-all g.row.N _ a.weights a.lines.now a.at (rw all at c.loop-i.invariant.is_total))
