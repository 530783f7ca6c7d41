-- `kernel_convolve::convolve_row` meets its contract: the law of a row that is summed and finished. Assumes nothing.
use Rattle.kernel_convolve.proofs.FinishedRows.{convolved-row}
use Rattle.kernel_convolve.proofs.convolve_row.Goals as goal

pub returns : goal.returns
returns c =
    let s = c.args in
    convolved-row s.kernel.now.convolution s.kernel.now.values s.lines.now s.left s.count _ _ _ c.sums.ensures c.finish_row.ensures
