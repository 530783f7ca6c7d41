-- `draw_curve::draw_curve` meets its contract: the maps hold what the rules work. An empty rectangle has no pixels. Assumes nothing.
use native.Mathlib.Omega.{arith}
use Rattle.filter.specs.Kinds.{curve_maps}
use Rattle.buffers.specs.Shown.{shown}
use Rattle.buffers.proofs.DrawnRows.{drawn-none, drawn-new}
use Rattle.buffers.proofs.ShownInputs.{drawable-valid}
use Rattle.draw_curve.proofs.MapsFilled.{remapped-held}
use Rattle.draw_curve.proofs.draw_curve.Goals as goal

pub returns-then-rect : goal.returns-then-rect
returns-then-rect c = drawn-none _ _ _ _ _ _ (λ x y i. absurd (omega (arith, c.if-rect.true, i.left, i.right)))

pub returns : goal.returns
returns c =
    let a = c.args in
    let p = shown a.context a.source.now a.workspace.now a.input in
    let valid = (drawable-valid _ _ _ _ c.requires.drawable.0).valid _ c.requires.drawable.1 in
    drawn-new _ _ _ _ _ _ _ _
    (λ x y i. remapped-held (curve_maps a.transfers a.values) _ c.fill_maps.ensures (p x y) (valid.valid x y) (valid.bytes x y))
    c.draw_maps.ensures
