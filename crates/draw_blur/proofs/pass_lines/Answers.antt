-- `draw_blur::pass_lines` meets its contract: for d below 2 there are no passes. Assumes nothing.
use mathlib.Core.Path.{refl}
use mathlib.Core.Logic.{inr}
use Rattle.draw_blur.proofs.BlurBanded.{worked-passes}
use Rattle.draw_blur.proofs.pass_lines.Goals as goal

pub returns : goal.returns
returns c = (worked-passes _ _ _ _ _ _ c.blur_lines.ensures.blurred, inr refl)
