-- `kernels::composite::twillgoose_kernel_composite_row` meets its contract: the kernel's, for the operator that the plain numbers stand for. Assumes nothing.
use Rattle.kernels.proofs.composite.twillgoose_kernel_composite_row.Goals as goal

pub returns : goal.returns
returns c =
    record { painted = rw c.operator_at.ensures at c.composite_row.ensures.painted; work_buffer = c.composite_row.ensures.work_buffer }
