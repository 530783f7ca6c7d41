-- `draw_morph::extreme_down` meets its contract: the lines of a strip are its rows. Assumes nothing.
use mathlib.Core.Logic.{⊎_elim}
use native.Mathlib.Omega.{arith}
use Rattle.draw_window.proofs.StripRows.{whole-pixels}
use Rattle.draw_morph.proofs.ExtremeBanded.{worked-extremes}
use Rattle.draw_morph.proofs.extreme_down.Goals as goal

pub returns : goal.returns
returns c =
    let a = c.args in
    let r = c.extreme_lines-here.result in
    let K = c.extreme_lines-here.ensures in
    let e = whole-pixels r a.half K.place in
    (rw e (worked-extremes _ _ _ _ _ _ _ _ _ _ K), ⊎_elim (λ z. omega arith) (λ z. omega arith) K.place)
