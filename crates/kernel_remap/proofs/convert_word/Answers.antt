-- `kernel_remap::convert_word` meets its contract: the three colours looked up, the alpha as it is. Assumes nothing.
use mathlib.Core.Path.{◌∙◌}
use native.Mathlib.Omega.{arith}
use Rattle.pixel.specs.Remap.{remapped}
use Rattle.kernel_remap.proofs.TableLines.{pair-in}
use Rattle.kernel_remap.proofs.convert_word.Goals as goal

pub returns : goal.returns
unfolding remapped
returns c =
    let P = c.requires in
    rw (
      c.look.ensures ∙ pair-in P _ _ (omega arith) (omega arith),
      c.look-2.ensures ∙ pair-in P _ _ (omega arith) (omega arith),
      c.look-3.ensures ∙ pair-in P _ _ (omega arith) (omega arith),
    ) at c.pack.ensures
