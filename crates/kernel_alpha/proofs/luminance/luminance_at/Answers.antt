-- `kernel_alpha::luminance::luminance_at` meets its contract: the law of the luminance of a pixel. Assumes nothing.
use mathlib.Core.Path.{◌∙◌}
use Rattle.pixel.specs.Bytes.{pixel_at}
use Rattle.pixel.proofs.PaintedRows.{painted-as}
use Rattle.kernel_alpha.proofs.LuminanceByTable.{luminance-pixel}
use Rattle.kernel_alpha.proofs.luminance.luminance_at.Goals as goal

pub returns : goal.returns
returns c =
    painted-as _ _ _ _ _ _ _
    (λ x l h. luminance-pixel (pixel_at c.args.src.now c.args.i) _ c.requires.4
    (c.luminance_of.ensures ∙ rw (c.unpremultiply-r.ensures.0, c.unpremultiply-g.ensures.0, c.unpremultiply-b.ensures.0)))
    c.put.ensures
