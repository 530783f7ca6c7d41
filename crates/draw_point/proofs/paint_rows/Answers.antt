-- `draw_point::paint_rows` meets its contract: each turn draws one row more, worked from inputs that the rows before left alone.
-- Assumes nothing.
use Prim.Native.Nat.{◌<◌}
use mathlib.Core.Path.{◌∙◌}
use native.Mathlib.Omega.{arith}
use Rattle.buffers.proofs.DrawnRows.{drawn-more}
use Rattle.draw_point.proofs.KindlessShapes.{workable-later, row-later}
use Rattle.draw_point.proofs.paint_rows.Goals as goal

pub paint-requires : goal.paint-requires
paint-requires c =
    let a = c.args in
    let L = c.loop-y in
    let I = L.invariant in
    let W = workable-later a.context _ _ a.source.now a.workspace.now L.workspace a.shape I.2 a.pairs.now c.requires.workable.0 in
    let high : L.y < a.context.h = omega (arith, c.loop-y-test.true, c.requires.within.0.bottom) in
    record { workable = (W, c.requires.workable.1, record { high = high; order = c.requires.within.1; wide = c.requires.within.0.right }); work_row = (I.3, I.4, I.5) }

pub loop-y-preserved : goal.loop-y-preserved
loop-y-preserved c =
    let a = c.args in
    let L = c.loop-y in
    let I = L.invariant in
    let row = row-later a.context _ _ a.source.now a.workspace.now L.workspace a.shape I.2 _ _ c.requires.workable.0.earlier c.paint.ensures in
    let high : L.y < a.context.h = omega (arith, c.loop-y-test.true, c.requires.within.0.bottom) in (
      omega (arith, I.0),
      omega (arith, c.loop-y-test.true, I.1),
      drawn-more _ _ _ _ _ _ _ _ _ _ _ I.2 row I.0 c.requires.within.1 c.requires.within.0.right high,
      c.paint.auto.a ∙ I.3,
      c.paint.auto.g ∙ I.4,
      c.paint.auto.row ∙ I.5,
    )
