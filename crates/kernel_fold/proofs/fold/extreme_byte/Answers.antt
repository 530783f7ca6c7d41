-- `extreme_byte` meets its contract: by the two variants. Assumes nothing.
use Rattle.kernel_fold.specs.Operation.{operation}
use Rattle.kernel_fold.proofs.fold.extreme_byte.Goals as goal

pub returns-in-Least : goal.returns-in-Least
unfolding operation
returns-in-Least c = rw c.in-Least.is c.min.ensures

pub returns-in-Largest : goal.returns-in-Largest
unfolding operation
returns-in-Largest c = rw c.in-Largest.is c.max.ensures
