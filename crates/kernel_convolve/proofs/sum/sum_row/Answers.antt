-- `kernel_convolve::sum::sum_row` meets its contract. Assumes nothing.
use Rattle.std.proofs.Common.{refl, arith}
use Rattle.kernel_convolve.proofs.SummedRows.{summed-row}
use Rattle.kernel_convolve.proofs.sum.sum_row.Goals as goal

pub returns : goal.returns
returns c =
    let k = c.args.kernel.now in
    summed-row k.convolution k.values c.divisor-divisor.result _ c.args.lines.now c.divisor-divisor.ensures.is_divisor
    (omega (arith, c.new.ensures, c.abs_diff.ensures)) c.bias.ensures.0 refl c.gather.ensures c.gather-2.ensures
    c.args.left c.args.count _ _ c.sum_pixels.ensures
