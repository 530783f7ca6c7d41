-- `kernels::convert::twillgoose_kernel_prepare_convert` meets its contract: the kernel's, for the space that the truth stands for. Assumes nothing.
use Rattle.kernels.proofs.convert.twillgoose_kernel_prepare_convert.Goals as goal

pub returns : goal.returns
returns c = rw c.space_to.ensures at c.prepare.ensures
