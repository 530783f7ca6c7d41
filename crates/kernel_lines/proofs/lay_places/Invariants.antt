use Rattle.std.proofs.Common.{◌*◌}
use Rattle.pixel.specs.Bytes.{Painted}
use Rattle.pixel.specs.Convolve.{extended}
use Rattle.kernel_lines.specs.Lines.{pixel_in}
use Rattle.kernel_lines.proofs.lay_places.Given as goal

abbrev pub invariant-loop-x : goal.invariant-loop-x
invariant-loop-x l = Painted (extended l.edge l.w l.t (pixel_in l.row l.w)) (4 * l.s) l.from l.x l.initial.lines l.lines
