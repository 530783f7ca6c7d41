-- `kernel_remap::table::fill_line` meets its contract: the part that was lent is filled. Assumes nothing.
use native.Mathlib.Omega.{arith}
use Rattle.kernel_alpha.proofs.LentParts.{filled-part}
use Rattle.kernel_remap.proofs.table.fill_line.Goals as goal

pub returns : goal.returns
returns c = filled-part _ _ _ _ c.loop-i.i _ _ (omega arith) (omega arith) (omega arith) c.loop-i.invariant
