-- `draw_convolve::paint` meets its contract. Assumes nothing.
use Rattle.std.proofs.Common.{◌+◌, ◌-◌, ◌*◌, ◌≤◌, length, refl, arith}
use Rattle.pixel.proofs.PaintedRows.{painted-as}
use Rattle.kernel_lines.specs.Convolved.{line_pixel}
use Rattle.kernel_lines.proofs.ConvolvedLines.{line-is}
use Rattle.buffers.proofs.LoadedRows.{painted-into}
use Rattle.draw_convolve.proofs.paint.Goals as goal

pub returns-clause-row_from : goal.returns-clause-row_from
returns-clause-row_from c =
    let a = c.args in
    let k = a.kernel.now in
    let R = c.requires.in_limits.2 in
    let fits : c.start-lo.result + 4 * (a.part.to - a.part.from) ≤ length a.workspace.now =
    omega (arith, c.start-lo.ensures.from_bound, c.requires.in_limits.1, R.order, R.wide) in
    let P = painted-into c.start-lo.result (a.part.to - a.part.from) a.workspace.now fits _ (line_pixel k.convolution k.values _) _ _ _ _
    c.start-lo.ensures.value refl R.order (λ j l. refl) c.convolve_row.ensures in
    λ g H. painted-as _ _ _ _ _ _ _
    (λ x l m. line-is a.context.w a.context.h k.convolution k.values g x a.part.y _ k.convolves (c.lay_lines.ensures.lines_laid g H) (omega (arith, R.wide)) R.high) P
