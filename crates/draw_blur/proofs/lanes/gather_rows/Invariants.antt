use Rattle.draw_blur.specs.Lanes.{Gathered}
use Rattle.draw_blur.proofs.lanes.gather_rows.Given as goal

abbrev pub invariant-loop-k : goal.invariant-loop-k
invariant-loop-k l = Gathered l.lines l.o l.at l.width l.k l.initial.dst l.dst
