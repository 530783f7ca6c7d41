-- `kernels::color::twillgoose_kernel_prepare_saturate` meets its contract: the kernel's, for the matrix that the plain numbers stand for. Assumes nothing.
use Rattle.kernels.proofs.color.twillgoose_kernel_prepare_saturate.Goals as goal

pub returns : goal.returns
returns c =
    rw c.saturation_of.ensures.0 at c.prepare.ensures
