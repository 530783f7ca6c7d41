-- `kernel_morph::extreme_lines` meets its contract: no window needs to be longer than the lines, and the edges come last. Assumes nothing.
use Rattle.kernel_morph.proofs.PingPongGrowth.{pingpong-edged}
use Rattle.kernel_morph.proofs.extreme_lines.Goals as goal

pub returns : goal.returns
returns c =
    pingpong-edged _ _ _ _ _ _ _ _ _ _ _ (rw (c.min.ensures, c.min-2.ensures) at c.grow_windows-here.ensures) c.finish_edges.ensures
