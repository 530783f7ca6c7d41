use Rattle.buffers.specs.Shown.{shown}
use Rattle.draw_blur.specs.Lanes.{Dealt}
use Rattle.draw_blur.proofs.lanes.deal_rows.Given as goal

abbrev pub invariant-loop-k : goal.invariant-loop-k
invariant-loop-k l =
    Dealt (shown l.context l.source l.workspace l.input) l.span l.y l.k l.initial.lines l.lines
