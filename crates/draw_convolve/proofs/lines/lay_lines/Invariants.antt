use Rattle.std.proofs.Common.{◌+◌}
use Rattle.filter.specs.Picture.{Picture}
use Rattle.draw_convolve.specs.Staged.{ScratchHolds}
use Rattle.draw_convolve.proofs.StagedRows.{LinesBefore}
use Rattle.draw_convolve.proofs.lines.lay_lines.Given as goal

abbrev pub invariant-loop-i : goal.invariant-loop-i
invariant-loop-i l = (g : Picture) → ScratchHolds l.w l.h l.k l.y (l.y + 1) g l.scratch → LinesBefore l.w l.h l.k g l.y l.i l.lines
