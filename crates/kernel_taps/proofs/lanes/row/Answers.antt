-- `kernel_taps::lanes::row` meets its contract: one product more in each turn. Assumes nothing.
use Rattle.std.proofs.Common.{ℕ, ◌+◌, ◌*◌, ◌≤◌, arith, ◌∙◌, ap₂}
use Rattle.kernel_taps.proofs.RowTotals.{product_le, row-none, row-more}
use Rattle.kernel_taps.proofs.lanes.row.Goals as goal

pub loop-j-init : goal.loop-j-init
loop-j-init g c = record { is_total = row-none _ _ _ _; small = omega arith }

pub loop-j-preserved : goal.loop-j-preserved
loop-j-preserved g c =
    let a = c.args in
    let L = c.loop-j in
    let w = c.from in
    let x = c.from-in-loop-j in
    let small : w.result * x.result ≤ 16711425
    = product_le w.result x.result (omega (arith, w.ensures, c.loop-j-test.element_fits)) (omega (arith, x.ensures, c.type_inv.lines (a.at + 4 * L.j))) in
    record {
      is_total = ap₂ (λ (y z : ℕ). L.sum + y * z) w.ensures x.ensures ∙ row-more L.j L.sum a.weights a.first a.lines.now a.at L.invariant.is_total;
      small = omega (arith, L.invariant.small);
    }
