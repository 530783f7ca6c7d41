-- `kernel_composite::factor::inverse_alphas` meets its contract: what its closure gives. Assumes nothing.
use Prim.Native.Nat.{◌-◌}
use borrow.Author.Rules.{rules}
use Rattle.kernel_composite.proofs.factor.inverse_alphas.Goals as goal

pub returns : goal.returns
returns c = c.factors.ensures (λ t. 255 - t) (λ t r l p. search rules)
