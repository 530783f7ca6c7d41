-- `finish_edges` meets its contract: by the two variants. Assumes nothing.
use Rattle.kernel_morph.proofs.PingPongGrowth.{stayed}
use Rattle.kernel_morph.proofs.edge.finish_edges.Goals as goal

pub returns-in-Largest : goal.returns-in-Largest
returns-in-Largest c = rw c.in-Largest.is (stayed _ _ _ _ _ _)
