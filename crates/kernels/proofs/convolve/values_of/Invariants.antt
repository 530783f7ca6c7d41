use Rattle.kernels.proofs.PairedNumbers.{Paired}
use Rattle.kernels.proofs.convolve.values_of.Given as goal

abbrev pub invariant-loop-i : goal.invariant-loop-i
invariant-loop-i l = Paired l.values l.i l.pair-items
