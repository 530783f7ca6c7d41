-- `kernel_convolve::plan::Plan::put_pixel` meets its contract: the law of a pixel made of sums. Assumes nothing.
use Rattle.std.proofs.Common.{◌∙◌}
use Rattle.pixel.proofs.PaintedRows.{painted-as}
use Rattle.kernel_convolve.proofs.PlannedRows.{planned-pixel}
use Rattle.kernel_convolve.proofs.plan.Plan.put_pixel.Goals as goal

pub returns : goal.returns
returns c =
    let e = c.divided-q.ensures ∙ planned-pixel c.args.self _ c.args.i _ _ c.of-s.ensures c.of-t.ensures in
    painted-as _ _ _ _ _ _ _ (λ x l h. e) c.put.ensures
