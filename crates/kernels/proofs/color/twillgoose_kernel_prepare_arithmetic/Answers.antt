-- `kernels::color::twillgoose_kernel_prepare_arithmetic` meets its contract: the kernel's, for the coefficients that the plain numbers stand for. Assumes nothing.
use Rattle.kernels.proofs.color.twillgoose_kernel_prepare_arithmetic.Goals as goal

pub returns : goal.returns
returns c =
    rw c.arithmetic_of.ensures.0 at c.prepare.ensures
