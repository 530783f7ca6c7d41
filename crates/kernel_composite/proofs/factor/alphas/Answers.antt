-- `kernel_composite::factor::alphas` meets its contract: what its closure gives. Assumes nothing.
use borrow.Author.Rules.{rules}
use Rattle.kernel_composite.proofs.factor.alphas.Goals as goal

pub returns : goal.returns
returns c = c.factors.ensures (λ t. t) (λ t r l p. search rules)
