-- `kernel_composite::composite_row` meets its contract: the factors, then the blend. Assumes nothing.
use borrow.Author.Rules.{rules}
use Rattle.kernel_composite.proofs.FactorRows.{rows-hold}
use Rattle.kernel_composite.proofs.composite_row.Goals as goal

pub blend_row-requires-clause-valid_row : goal.blend_row-requires-clause-valid_row
blend_row-requires-clause-valid_row c = (search rules, search rules, rows-hold _ _ _ _ _ _ _ _ c.factor_rows.ensures)
