-- `deal_rows` meets its contract: each turn fills one lane. Assumes nothing.
use mathlib.Core.Path.{◌≡◌}
use native.Mathlib.Omega.{arith}
use Rattle.draw_blur.proofs.RowsAsLanes.{dealt-more}
use Rattle.draw_blur.proofs.lanes.deal_rows.Goals as goal

pub loop-k-preserved : goal.loop-k-preserved
loop-k-preserved c = dealt-more _ _ _ _ _ _ _ _ _ (omega arith) c.loop-k.invariant c.see-seen.ensures.held c.deal_row.ensures

pub returns : goal.returns
returns c =
    let e : c.loop-k.k ≡ c.args.count = omega arith in
    rw e at c.loop-k.invariant
