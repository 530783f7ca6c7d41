-- `draw_point::merge::lay` meets its contract: the kernel reads the row that the step sees. Assumes nothing.
use mathlib.Core.Path.{ap}
use Prim.Native.Nat.{◌*◌}
use native.Mathlib.Omega.{arith}
use Rattle.buffers.proofs.ShownInputs.{drawable-valid}
use Rattle.pixel.specs.declared.Pixel.{Pixel}
use Rattle.pixel.specs.declared.Operator.TheVariants.{Over}
use Rattle.pixel.specs.Bytes.{pixel_at}
use Rattle.pixel.specs.Composite.{composited}
use Rattle.pixel.proofs.PaintedRows.{painted-as}
use Rattle.buffers.specs.Shown.{shown}
use Rattle.buffers.proofs.LoadedRows.{loaded-pixel, loaded-valid}
use Rattle.buffers.proofs.Seen.{held}
use Rattle.draw_point.proofs.StackedRows.{over-valid}
use Rattle.draw_point.proofs.merge.lay.Goals as goal

pub copy_layer-requires : goal.copy_layer-requires
copy_layer-requires c =
    let D = c.requires.drawable in
    record { sized = (D.0.readable.sized, D.2); input_value = (D.1, omega (arith, c.requires.work_row.0)) }

pub see-seen-requires : goal.see-seen-requires
see-seen-requires c =
    let C = c.copy_layer.ensures in
    let a = c.args in
    let D = c.requires.drawable in
    record { readable = (D.0.readable, D.2); input_value = (D.1, omega (arith, C.long, c.requires.work_row.0)); layer_held = held a.context a.i a.part a.source.now a.workspace.now _ _ _ C }

pub over_onto-requires : goal.over_onto-requires
over_onto-requires c =
    let seen = c.see-seen.ensures in
    let D = c.requires.drawable in
    let R = c.requires.work_row in
    let v = loaded-valid _ _ _ _ _ _ seen.held ((drawable-valid _ _ _ _ D.0).valid _ D.1) in
    record { a_len = (seen.long, R.1, R.2); valid_row = (v, c.requires.valid_row) }

pub returns : goal.returns
returns c =
    let seen = c.see-seen.ensures in
    let a = c.args in
    let D = c.requires.drawable in
    let q = shown a.context a.source.now a.workspace.now a.i in
    let v = loaded-valid _ _ _ _ _ _ seen.held ((drawable-valid _ _ _ _ D.0).valid _ D.1) in
    record {
      laid = painted-as _ _ _ _ _ _ _
          (λ x l h. ap (λ (p : Pixel). composited Over p (pixel_at a.under.now (4 * x))) (loaded-pixel q a.part.y a.part.from a.part.to _ _ seen.held x h))
          c.over_onto.ensures.painted;
      valid_row_2 = over-valid _ _ _ _ v c.requires.valid_row c.over_onto.ensures.painted;
    }
