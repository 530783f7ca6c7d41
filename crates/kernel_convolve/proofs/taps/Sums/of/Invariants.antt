use Rattle.std.proofs.Common.{take}
use Rattle.kernel_convolve.specs.Code.{Summed}
use Rattle.kernel_convolve.proofs.taps.Sums.of.Given as goal

abbrev pub invariant-loop-tap : goal.invariant-loop-tap
invariant-loop-tap l = Summed (take l.tap-index l.taps) l.lines l.i l.sums
