-- `reciprocal_of` meets its contract: up to 61 the candidate divides. Assumes nothing.
use native.Mathlib.Omega.{arith}
use Rattle.kernel_sums.proofs.ReciprocalDivides.{divides}
use Rattle.kernel_sums.proofs.reciprocal.reciprocal_of.Goals as goal

pub returns : goal.returns
returns c =
    let E = c.candidate.ensures in
    let r = c.candidate.result in
    (E.mul, E.shift, divides r.shift c.args.size r.mul E.shift (omega arith) E.mul)
