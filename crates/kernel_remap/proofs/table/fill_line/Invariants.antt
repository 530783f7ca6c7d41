use Rattle.window.specs.Store.{Filled}
use Rattle.kernel_remap.specs.Code.{line_entry}
use Rattle.kernel_remap.proofs.table.fill_line.Given as goal

abbrev pub invariant-loop-i : goal.invariant-loop-i
invariant-loop-i l = Filled (line_entry l.map l.line l.b) 0 l.i l.initial.part l.part
