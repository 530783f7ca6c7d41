-- `kernel_matrix::matrix::matrix_row` meets its contract: the new channels, and then their colours premultiplied. Assumes nothing.
use Rattle.kernel_matrix.proofs.MatrixRows.{by-matrix-row}
use Rattle.kernel_matrix.proofs.matrix.matrix_row.Goals as goal

pub returns : goal.returns
returns c =
    by-matrix-row _ c.args.src.now _ _ _ _ c.channels_row.ensures c.premultiply_row.ensures
