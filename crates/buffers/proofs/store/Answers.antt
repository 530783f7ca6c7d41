-- `buffers::store` meets its contract: pixels counted from the row's start. Assumes nothing.
use mathlib.Core.Path.{ap}
use native.Mathlib.Omega.{arith}
use Rattle.pixel.specs.Bytes.{pixel_at}
use Rattle.buffers.proofs.RowStarts.{painted-move, row-bytes}
use Rattle.buffers.proofs.store.Goals as goal

pub returns : goal.returns
returns c =
    let a = c.args in
    let e = row-bytes a.context.w a.context.h a.context.n a.part.y _ c.row_start-p.ensures.0 in
    painted-move _ _ _ _ a.part.from a.part.to _ _ e (λ x l m. ap (pixel_at a.row.now) (omega arith)) c.copy_pixels.ensures
