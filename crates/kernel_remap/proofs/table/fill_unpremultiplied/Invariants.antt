use Rattle.window.specs.Store.{Filled}
use Rattle.kernel_remap.specs.Code.{unpremultiplied_at}
use Rattle.kernel_remap.proofs.table.fill_unpremultiplied.Given as goal

abbrev pub invariant-loop-c : goal.invariant-loop-c
invariant-loop-c l = Filled (unpremultiplied_at l.to l.inner l.a) 0 l.c l.initial.part l.part
