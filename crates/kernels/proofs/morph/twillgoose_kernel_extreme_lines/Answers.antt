-- `kernels::morph::twillgoose_kernel_extreme_lines` meets its contract: the kernel's, for the extreme that the plain numbers stand for. Assumes nothing.
use Rattle.kernels.proofs.morph.twillgoose_kernel_extreme_lines.Goals as goal

pub returns : goal.returns
returns c =
    rw c.extreme_of.ensures at c.extreme_lines.ensures
