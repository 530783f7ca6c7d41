-- `kernel_remap::few::convert_few` meets its contract: each turn converts one more pixel, which no turn before has touched. Assumes nothing.
use Prim.Native.Nat.{◌+◌, ◌*◌}
use mathlib.Core.Path.{◌≡◌, ◌∙◌, ap}
use native.Mathlib.Omega.{arith}
use Rattle.pixel.specs.Bytes.{pixel_at}
use Rattle.pixel.specs.Remap.{remapped}
use Rattle.pixel.specs.Space.{space_maps}
use Rattle.pixel.proofs.PaintedRows.{pixel-same, painted-more}
use Rattle.kernel_remap.proofs.few.convert_few.Goals as goal

pub loop-x-preserved : goal.loop-x-preserved
loop-x-preserved c =
    let a = c.args in
    let same : pixel_at c.loop-x.row (4 * c.loop-x.x) ≡ pixel_at a.row.now (4 * c.loop-x.x) = pixel-same c.loop-x.row a.row.now (4 * c.loop-x.x) (4 * c.loop-x.x) (λ k m. c.loop-x.invariant.1.after (4 * c.loop-x.x + k) (omega arith)) in
    (omega arith, painted-more _ _ 0 _ 0 c.loop-x.x _ _ _ (omega arith) (omega arith) (c.convert_at-v.ensures.holds ∙ ap (remapped (space_maps a.to)) same) c.loop-x.invariant.1 c.put.ensures)
