use Rattle.std.proofs.Common.{◌≤◌, max}
use Rattle.filter.specs.Picture.{Picture}
use Rattle.buffers.specs.Drawn.{band}
use Rattle.draw_convolve.specs.Convolved.{RectConvolved}
use Rattle.draw_convolve.specs.Staged.{ScratchHolds}
use Rattle.draw_convolve.proofs.paint_rows.Given as goal

abbrev pub invariant-loop-y : goal.invariant-loop-y
invariant-loop-y l = record {
  within : l.y ≤ max l.top l.bottom;
  drawn : (g : Picture) → ScratchHolds l.context.w l.context.h l.kernel.convolution l.top l.bottom g l.scratch
      → RectConvolved l.context l.kernel.convolution l.kernel.values g (band l.left l.right l.top l.y) l.initial.workspace l.workspace;
}
