-- `kernels::color::twillgoose_kernel_combine_row` meets its contract: the kernel's, for the coefficients that the plain numbers stand for. Assumes nothing.
use Rattle.kernels.proofs.color.twillgoose_kernel_combine_row.Goals as goal

pub arithmetic_row-requires : goal.arithmetic_row-requires
arithmetic_row-requires c =
    (rw c.arithmetic_of.ensures.0 c.requires.k1_bound.4, c.requires.a_len.0, c.requires.a_len.1, c.requires.a_len.2)

pub returns : goal.returns
returns c =
    rw c.arithmetic_of.ensures.0 at c.arithmetic_row.ensures
