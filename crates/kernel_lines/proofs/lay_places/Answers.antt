-- `kernel_lines::lay_places` meets its contract: each turn paints one more place. Assumes nothing.
use Rattle.std.proofs.Common.{sym, ap, ◌∙◌, arith}
use Rattle.pixel.proofs.PaintedRows.{painted-none, painted-more}
use Rattle.kernel_lines.specs.Lines.{pixel_in}
use Rattle.kernel_lines.proofs.ExtendedRows.{pixel-behind, extended-place}
use Rattle.kernel_lines.proofs.lay_places.Goals as goal

pub loop-x-init : goal.loop-x-init
loop-x-init c = painted-none _ _ _ _

pub loop-x-preserved : goal.loop-x-preserved
loop-x-preserved c =
    let L = c.loop-x in
    let a = c.args in
    let f = pixel_in a.row.now a.w in
    let place = extended-place a.edge a.w a.t L.x f (pixel-behind a.row.now a.w) in
    let e = c.pixel_in.ensures.holds ∙ ap f c.place_of.ensures ∙ sym place in
    painted-more _ _ _ _ _ L.x _ _ _ (omega arith) (omega arith) e L.invariant c.put.ensures
