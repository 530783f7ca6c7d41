use Prim.Native.Nat.{◌-◌, ◌≤◌, min}
use mathlib.Core.Path.{◌≡◌}
use lib.ListN.{length}
use Rattle.buffers.specs.Shown.{shown}
use Rattle.buffers.specs.Strip.{Strip}
use Rattle.draw_window.specs.LineRules.{across_of}
use Rattle.draw_blur.specs.BlurRule.{blurs}
use Rattle.draw_blur.proofs.blur_across.Given as goal

abbrev pub invariant-loop-y : goal.invariant-loop-y
invariant-loop-y l = record {
  low : l.top ≤ l.y;
  long : length l.scratch ≡ length l.initial.scratch;
  rows : Strip (across_of (blurs l.d) l.context.w (shown l.context l.source l.workspace l.input)) 0 l.left l.right l.top (min l.y l.bottom) l.scratch;
}

abbrev pub decreases-loop-y : goal.decreases-loop-y
decreases-loop-y l = l.bottom - l.y
