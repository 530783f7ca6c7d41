-- `kernel_convolve::finish::finish_row` meets its contract: two ways. Assumes nothing.
use Rattle.std.proofs.Common.{refl}
use Rattle.kernel_convolve.proofs.FinishedRows.{kept_row, lowered-only}
use Rattle.kernel_convolve.proofs.finish.finish_row.Goals as goal

pub returns-then-convolution : goal.returns-then-convolution
returns-then-convolution c =
    let s = c.args in
    kept_row s.convolution s.lines.now _ s.left s.count _ _ _ c.if-convolution.true refl c.put_alphas.ensures c.premultiply_row.ensures

pub returns : goal.returns
returns c =
    let s = c.args in
    lowered-only s.convolution s.lines.now s.left s.count _ _ c.if-convolution.false c.lower_row.ensures
