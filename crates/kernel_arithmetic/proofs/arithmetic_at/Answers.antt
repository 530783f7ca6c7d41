-- `kernel_arithmetic::arithmetic_at` meets its contract: the four bytes stored are the channels looked up, the colours lowered. Assumes nothing.
use Rattle.pixel.specs.Arithmetic.{by_arithmetic}
use Rattle.pixel.proofs.PaintedRows.{painted-as}
use Rattle.kernel_arithmetic.proofs.arithmetic_at.Goals as goal

pub returns : goal.returns
unfolding by_arithmetic
returns c =
    painted-as _ _ _ _ _ _ _
    (λ x l h. rw (c.min-red.ensures, c.min-green.ensures, c.min-blue.ensures, c.look.ensures, c.look-2.ensures, c.look-3.ensures, c.look-alpha.ensures))
    c.put.ensures
