-- `kernel_convolve::finish::alpha_row` meets its contract: one pixel more in each turn, by the law of a word of alphas. Assumes nothing.
use Rattle.std.proofs.Common.{◌+◌, ◌*◌, refl, ap, ◌∙◌, arith}
use Rattle.pixel.proofs.PaintedRows.{painted-more}
use Rattle.kernel_convolve.specs.Code.{lowest}
use Rattle.kernel_convolve.proofs.FinishedRows.{word-lowest}
use Rattle.kernel_convolve.proofs.finish.alpha_row.Goals as goal

pub loop-x-preserved : goal.loop-x-preserved
loop-x-preserved c =
    let e = word-lowest _ _ (omega (arith, c.from.ensures, c.type_inv.d (4 * c.loop-x.x + 3))) refl ∙ ap lowest c.from.ensures in
    painted-more _ _ _ _ _ _ _ _ _ (omega arith) (omega arith) e c.loop-x.invariant c.put.ensures
