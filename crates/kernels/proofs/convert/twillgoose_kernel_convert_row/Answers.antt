-- `kernels::convert::twillgoose_kernel_convert_row` meets its contract: the kernel's, for the space that the truth stands for. Assumes nothing.
use Rattle.kernels.proofs.convert.twillgoose_kernel_convert_row.Goals as goal

pub convert_row-requires : goal.convert_row-requires
convert_row-requires c =
    let pre = c.requires in
    (rw c.space_to.ensures pre.0, pre.1, pre.2)

pub returns : goal.returns
returns c = rw c.space_to.ensures at c.convert_row.ensures
