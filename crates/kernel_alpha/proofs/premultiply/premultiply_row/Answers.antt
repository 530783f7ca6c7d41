-- `kernel_alpha::premultiply::premultiply_row` meets its contract: the law of a row of factors. Assumes nothing.
use Rattle.kernel_alpha.proofs.PremultipliedRows.{premultiplied-row}
use Rattle.kernel_alpha.proofs.premultiply.premultiply_row.Goals as goal

pub returns : goal.returns
returns c =
    premultiplied-row _ _ _ _ _ c.requires.0 c.factor_row.ensures c.scale_row.ensures
