-- `draw::clear_around` meets its contract: nothing is left to clear, or the whole layer is cleared. Assumes nothing.
use mathlib.Core.Path.{sym, ◌∙◌}
use Rattle.draw.proofs.Clearing.{cleared-covered, cleared-all}
use Rattle.draw.proofs.clear_around.Goals as goal

pub returns-then-covers : goal.returns-then-covers
returns-then-covers c = cleared-covered _ _ _ _ _ (sym c.covers.ensures ∙ c.if-covers.true)

pub returns : goal.returns
returns c = cleared-all _ _ _ _ _ _ c.clear_pixels.ensures
