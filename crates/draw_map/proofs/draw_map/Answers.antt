-- A kind is its kernel, with what it takes of the values. Assumes nothing.
use mathlib.Core.Path.{ap}
use Rattle.pixel.specs.declared.Matrix as M
use Rattle.pixel.specs.Matrix.{by_matrix}
use Rattle.filter.specs.Kinds.{mapped}
use Rattle.buffers.specs.Shown.{shown}
use Rattle.buffers.proofs.DrawnRows.{drawn-new}
use Rattle.draw_map.proofs.draw_map.Goals as goal

pub returns-in-Matrix : goal.returns-in-Matrix
unfolding mapped
returns-in-Matrix c =
    let a = c.args in
    let p = shown a.context a.source.now a.workspace.now a.input in
    drawn-new _ _ _ _ _ _ _ _ (λ x y i. rw c.in-Matrix.is (ap (λ (m : M.Matrix). by_matrix m (p x y)) c.matrix_of.ensures)) c.draw_matrix.ensures

pub returns-in-Saturate : goal.returns-in-Saturate
unfolding mapped
returns-in-Saturate c =
    let a = c.args in
    let p = shown a.context a.source.now a.workspace.now a.input in
    drawn-new _ _ _ _ _ _ _ _ (λ x y i. rw c.in-Saturate.is (ap (λ (m : M.Matrix). by_matrix m (p x y)) c.saturate_of.ensures.0)) c.draw_matrix-in-Saturate.ensures

pub returns-in-Luminance : goal.returns-in-Luminance
unfolding mapped
returns-in-Luminance c = rw c.in-Luminance.is c.draw_luminance.ensures

pub returns-in-Curve : goal.returns-in-Curve
unfolding mapped
returns-in-Curve c = rw c.in-Curve.is c.draw_curve.ensures
