-- `kernel_matrix::matrix::channels_at` meets its contract: the four bytes stored are the matrix's rows on the unpremultiplied colours. Assumes nothing.
use Rattle.kernel_matrix.specs.Code.{by_rows}
use Rattle.pixel.proofs.PaintedRows.{painted-as}
use Rattle.kernel_matrix.proofs.matrix.channels_at.Goals as goal

pub returns : goal.returns
unfolding by_rows
returns c =
    painted-as _ _ _ _ _ _ _
    (λ x l h. rw (
      c.channel-red.ensures,
      c.channel-green.ensures,
      c.channel-blue.ensures,
      c.channel.ensures,
      c.unpremultiply-r.ensures.0,
      c.unpremultiply-g.ensures.0,
      c.unpremultiply-b.ensures.0,
    ))
    c.put.ensures
