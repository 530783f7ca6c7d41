-- `kernel_lines::kernel::Kernel::divisor` meets its contract: as given, or the sum, or 1. Assumes nothing.
use Rattle.std.proofs.Common.{◌∙◌}
use Rattle.pixel.specs.Convolve.{divisor_of}
use Rattle.kernel_lines.proofs.Divisors.{or-zero, or_same}
use Rattle.kernel_lines.proofs.kernel.Kernel.divisor.Goals as goal

pub returns-then-self-clause-is_divisor : goal.returns-then-self-clause-is_divisor
unfolding divisor_of
returns-then-self-clause-is_divisor c = rw c.if-self.true (cc)

pub returns-then-total-clause-is_divisor : goal.returns-then-total-clause-is_divisor
unfolding divisor_of
returns-then-total-clause-is_divisor c = rw c.if-self.false (or-zero _ _ _ c.total-total.ensures.is_sum c.if-total.true)

pub returns-clause-is_divisor : goal.returns-clause-is_divisor
unfolding divisor_of
returns-clause-is_divisor c =
    let e = c.total-total.ensures.is_sum in
    rw c.if-self.false (e ∙ or_same _ _ _ e c.if-total.false)
