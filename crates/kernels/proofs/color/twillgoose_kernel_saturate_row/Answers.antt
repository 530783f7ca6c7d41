-- `kernels::color::twillgoose_kernel_saturate_row` meets its contract: the kernel's, for the matrix that the plain numbers stand for. Assumes nothing.
use Rattle.kernels.proofs.color.twillgoose_kernel_saturate_row.Goals as goal

pub matrix_row-requires : goal.matrix_row-requires
matrix_row-requires c =
    let of = c.saturation_of in
    record { matrix_table = (rw of.ensures.0 c.requires.s_bound.1, of.ensures.1, c.requires.s_bound.2, c.requires.s_bound.3); n_le_longest_side = c.requires.n_le_longest_side }

pub returns : goal.returns
returns c =
    rw c.saturation_of.ensures.0 at c.matrix_row.ensures
