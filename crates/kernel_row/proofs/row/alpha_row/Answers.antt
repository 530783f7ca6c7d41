-- `kernel_row::row::alpha_row` meets its contract: each turn paints one more pixel's alpha. Assumes nothing.
use Rattle.std.proofs.Common.{arith}
use Rattle.pixel.proofs.PaintedRows.{painted-more}
use Rattle.kernel_row.proofs.AlphaWords.{unpacked-alpha}
use Rattle.kernel_row.proofs.row.alpha_row.Goals as goal

pub loop-x-preserved : goal.loop-x-preserved
loop-x-preserved c =
    let w = c.word in (
      omega arith,
      painted-more _ _ 0 _ 0 c.loop-x.x _ _ _ (omega arith) (omega arith) (unpacked-alpha _ w.result (omega arith) w.ensures) c.loop-x.invariant.1 c.put.ensures,
    )
