-- `draw_convolve::lines::lay` meets its contract. Assumes nothing.
use Rattle.std.proofs.Common.{◌+◌, ◌-◌, ◌*◌, refl, arith}
use Rattle.pixel.proofs.PaintedRows.{painted-as}
use Rattle.draw_convolve.proofs.StagedRows.{line-laid, line-blank}
use Rattle.draw_convolve.proofs.lines.lay.Goals as goal

pub returns-then-q-h-clause-line_laid : goal.returns-then-q-h-clause-line_laid
returns-then-q-h-clause-line_laid c =
    let a = c.args in
    let q = c.place_of-q.ensures in
    let inside = rw q at c.if-q-h.true in
    λ g H. painted-as _ _ _ _ _ _ _ (λ m l h. line-laid a.w a.h a.k a.y a.i g a.scratch.now H c.requires.2
    (4 * (c.place_of-q.result * a.w)) (4 * (c.place_of-q.result * a.w) + 4 * a.w - 4 * (c.place_of-q.result * a.w)) m inside (rw q refl) (omega arith)) c.lay_line.ensures

pub returns-else-q-h-clause-line_laid : goal.returns-else-q-h-clause-line_laid
returns-else-q-h-clause-line_laid c =
    let a = c.args in
    λ g H. painted-as _ _ _ _ _ _ _ (λ m l h. line-blank a.w a.h a.k a.y a.i g a.scratch.now H c.requires.2 m
    (omega (arith, c.place_of-q.ensures, c.if-q-h.false))) c.clear_line.ensures
