-- Each turn draws one row more, worked from an input that the rows before left alone. Assumes nothing.
use mathlib.Core.Path.{ap}
use native.Mathlib.Omega.{arith}
use Rattle.pixel.proofs.PaintedRows.{painted-as}
use Rattle.filter.specs.Picture.{Picture}
use Rattle.buffers.proofs.DrawnRows.{drawn-all, drawn-more}
use Rattle.buffers.proofs.AfterDrawing.{drawable-later, input-later}
use Rattle.buffers.proofs.rows.map_rows.Goals as goal

pub map_part-requires-clause-drawable : goal.map_part-requires-clause-drawable
map_part-requires-clause-drawable g c =
    let a = c.args in
    let L = c.loop-y in
    let W = c.requires.within in
    let drawn = L.invariant.2 c.requires.maps.0 c.requires.maps.1 in
    (drawable-later a.context _ _ a.source.now a.workspace.now L.workspace a.pairs.now drawn c.requires.drawable.0, c.requires.drawable.1, record { high = omega (arith, W.0.bottom); order = W.1; wide = W.0.right })

pub loop-y-preserved : goal.loop-y-preserved
loop-y-preserved g c =
    let a = c.args in
    let L = c.loop-y in
    let I = L.invariant in
    let W = c.requires.within in
    let same = input-later a.context _ _ a.source.now a.workspace.now L.workspace (I.2 c.requires.maps.0 c.requires.maps.1) a.input c.requires.drawable.1 in (
      omega (arith, I.0),
      omega (arith, I.1),
      λ f M.
          drawn-more _ _ _ _ _ _ _ _ _ _ _ (I.2 f M)
          (painted-as _ _ _ _ _ _ _ (λ x l m. ap (λ (p : Picture). f (p x L.y)) same) (c.map_part.ensures f M))
          I.0 W.1 W.0.right (omega (arith, W.0.bottom)),
    )

pub returns : goal.returns
returns g c = λ f M. drawn-all _ _ _ c.args.rect _ _ _ _ c.loop-y.invariant.1 (omega arith) (c.loop-y.invariant.2 f M)
