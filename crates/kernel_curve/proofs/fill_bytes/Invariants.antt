use Rattle.window.specs.Store.{Filled}
use Rattle.kernel_curve.specs.Code.{byte_of}
use Rattle.kernel_curve.proofs.fill_bytes.Given as goal

abbrev pub invariant-loop-c : goal.invariant-loop-c
invariant-loop-c l = Filled (byte_of l.transfer l.entries l.slope l.intercept) 0 l.c l.initial.map l.map
