-- `kernel_remap::table::seen` meets its contract: its entry in the table. Assumes nothing.
use mathlib.Core.Path.{sym, ◌∙◌}
use native.Mathlib.Omega.{arith}
use Rattle.kernel_remap.proofs.SpaceMaps.{seen-entry}
use Rattle.kernel_remap.proofs.table.seen.Goals as goal

pub returns : goal.returns
returns c = seen-entry _ _ _ _ c.requires.0 (sym c.is_empty.ensures ∙ c.if-is_empty.false) (omega arith) (omega arith)
