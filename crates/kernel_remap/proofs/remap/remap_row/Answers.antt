-- `kernel_remap::remap::remap_row` meets its contract: one pixel more in each turn. Assumes nothing.
use mathlib.Core.Path.{◌∙◌, ap}
use native.Mathlib.Omega.{arith}
use Rattle.pixel.proofs.PaintedRows.{painted-more}
use Rattle.kernel_remap.specs.Remaps.{looked_up}
use Rattle.kernel_remap.proofs.remap.remap_row.Goals as goal

pub loop-x-preserved : goal.loop-x-preserved
loop-x-preserved c =
    let L = c.loop-x in
    let s = c.args in
    let e = c.remap_word.ensures.holds ∙ ap (looked_up s.tables.now s.maps.now) c.word-v.ensures.holds in
    (omega arith, painted-more _ _ _ _ _ _ _ _ _ (omega arith) (omega arith) e L.invariant.1 c.put.ensures)
