-- `kernel_alpha::unpremultiply::unpremultiply_row` meets its contract: one pixel more in each turn; the pixel read is still the old one. Assumes nothing.
use mathlib.Core.Path.{◌∙◌, ap}
use Prim.Native.Nat.{◌+◌, ◌*◌}
use native.Mathlib.Omega.{arith}
use Rattle.pixel.specs.Alpha.{straight}
use Rattle.pixel.proofs.PaintedRows.{pixel-same, painted-more}
use Rattle.kernel_alpha.proofs.unpremultiply.unpremultiply_row.Goals as goal

pub loop-x-preserved : goal.loop-x-preserved
loop-x-preserved c =
    let L = c.loop-x in
    let s = c.args in
    let i = 4 * L.x in
    let old = pixel-same L.row s.row.now i i (λ k l. L.invariant.1.after (i + k) (omega arith)) in
    let e = c.straight_word.ensures.holds ∙ ap straight (c.word-v.ensures.holds ∙ old) in
    (omega arith, painted-more _ _ _ _ _ _ _ _ _ (omega arith) (omega arith) e L.invariant.1 c.put.ensures)
