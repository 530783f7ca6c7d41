use Rattle.window.specs.Store.{Filled}
use Rattle.kernel_alpha.specs.Code.{scaled_by}
use Rattle.kernel_alpha.proofs.premultiply.scale_row.Given as goal

abbrev pub invariant-loop-i : goal.invariant-loop-i
invariant-loop-i l = Filled (scaled_by l.initial.d l.f) 0 l.i l.initial.d l.d
