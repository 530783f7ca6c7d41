use Rattle.std.proofs.Common.{take, ◌≤◌}
use Rattle.kernel_convolve.specs.Code.{Gathered}
use Rattle.kernel_convolve.proofs.prepare.gather.Given as goal

abbrev pub invariant-loop-t : goal.invariant-loop-t
invariant-loop-t l = record {
  gathered : Gathered l.kernel.convolution l.kernel.values l.below l.t (take l.n l.room);
  fewer : l.n ≤ l.t;
}
