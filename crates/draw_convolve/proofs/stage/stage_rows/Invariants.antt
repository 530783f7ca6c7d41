use Rattle.std.proofs.Common.{is_some}
use Rattle.draw_convolve.specs.Staged.{seen, Staged}
use Rattle.draw_convolve.proofs.stage.stage_rows.Given as goal

abbrev pub invariant-loop-y : goal.invariant-loop-y
invariant-loop-y l = Staged l.view.context.w (is_some l.inverse) (seen l.view) l.from l.y l.scratch
