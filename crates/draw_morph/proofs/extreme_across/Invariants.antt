use mathlib.Core.Path.{◌≡◌}
use lib.ListN.{length}
use Rattle.buffers.specs.Shown.{shown}
use Rattle.buffers.specs.Strip.{Strip}
use Rattle.draw_window.specs.LineRules.{across_of}
use Rattle.draw_morph.specs.ExtremeRule.{extremes}
use Rattle.draw_morph.proofs.extreme_across.Given as goal

abbrev pub invariant-loop-y : goal.invariant-loop-y
invariant-loop-y l = record {
  long : length l.scratch ≡ length l.initial.scratch;
  rows : Strip (across_of (extremes l.op l.back l.ahead) l.context.w (shown l.context l.source l.workspace l.input)) 0 l.left l.right l.top l.y l.scratch;
}
