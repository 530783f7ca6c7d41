-- `kernel_alpha::unpremultiply::straight_word` meets its contract: the three colours by the table, the alpha as it is. Assumes nothing.
use Rattle.pixel.specs.Alpha.{straight}
use Rattle.kernel_alpha.proofs.unpremultiply.straight_word.Goals as goal

pub returns : goal.returns
unfolding straight
returns c =
    rw (c.unpremultiply.ensures.0, c.unpremultiply-2.ensures.0, c.unpremultiply-3.ensures.0) at c.pack.ensures
