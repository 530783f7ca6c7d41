use Rattle.window.specs.Store.{Filled}
use Rattle.kernel_arithmetic.specs.Code.{level}
use Rattle.kernel_arithmetic.proofs.fill_line.Given as goal

abbrev pub invariant-loop-y : goal.invariant-loop-y
invariant-loop-y l = Filled (level l.up l.above l.down l.below) 0 l.y l.initial.line l.line
