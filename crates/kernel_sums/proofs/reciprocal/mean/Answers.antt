-- `mean` meets its contract: what `Divides` says. Assumes nothing.
use mathlib.Core.Path.{◌∙◌}
use native.Mathlib.Omega.{arith}
use borrow.Author.Rules.{rules}
use Rattle.kernel_sums.proofs.ReciprocalDivides.{mean-lt, product_lt}
use Rattle.kernel_sums.proofs.reciprocal.mean.Goals as goal

pub scaled-requires : goal.scaled-requires
scaled-requires c =
    let d = c.requires.0 in
    (d.small, product_lt _ _ (search rules) (search rules), omega (arith, d.exact _ c.requires.1, mean-lt _ _ d.some c.requires.1))

pub returns : goal.returns
returns c = c.scaled.ensures ∙ c.requires.0.exact _ c.requires.1
