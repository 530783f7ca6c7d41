-- `draw_morph::extreme_row` meets its contract: the worked row lies in one of the two halves, and its pixels are copied. Assumes nothing.
use Prim.Native.Nat.{◌+◌, ◌-◌, ◌*◌, ◌/◌}
use native.Mathlib.Omega.{arith}
use Rattle.pixel.proofs.PaintedRows.{painted-as}
use Rattle.draw_window.proofs.PixelChannels.{row-pixel}
use Rattle.draw_window.proofs.StripRows.{whole-pixels}
use Rattle.draw_morph.proofs.ExtremeBanded.{worked-extremes}
use Rattle.draw_morph.proofs.extreme_row.Goals as goal

pub returns : goal.returns
returns c =
    let a = c.args in
    let r = c.extreme_lines-here.result in
    let K = c.extreme_lines-here.ensures in
    let W = worked-extremes _ _ _ _ _ _ _ _ _ _ K in
    painted-as _ _ _ _ _ _ _ (λ x l m.
    let i = a.skip + (x - a.at) in
    row-pixel _ _ _ r a.count i (4 * (r / 4 + a.skip + (x - a.at))) W (omega (arith, whole-pixels r 1152 K.place)) (omega arith))
    c.copy_pixels.ensures
