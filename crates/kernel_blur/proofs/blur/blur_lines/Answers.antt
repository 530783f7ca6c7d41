-- `blur_lines` meets its contract: three box passes, there, back and there again. Assumes nothing.
use mathlib.Core.Path.{refl}
use Prim.Native.Nat.{◌-◌, ◌/◌, ◌%◌}
use Rattle.kernel_blur.proofs.ThreePasses.{blurred}
use Rattle.kernel_blur.proofs.blur.blur_lines.Goals as goal

pub returns-clause-blurred : goal.returns-clause-blurred
returns-clause-blurred c =
    let a = c.args in
    blurred a.d a.a a.b a.n a.count (a.d / 2) (a.d / 2 - (1 - a.d % 2)) _ _ _ _ c.requires.n_in_bounds_2.2 refl refl c.box_pass.ensures.lined c.box_pass-2.ensures.lined c.box_pass-3.ensures.lined
