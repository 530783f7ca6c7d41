-- `draw_convolve::lines::lay_lines` meets its contract. Assumes nothing.
use Rattle.std.proofs.Common.{arith}
use Rattle.draw_convolve.proofs.StagedRows.{lines_more}
use Rattle.draw_convolve.proofs.lines.lay_lines.Goals as goal

pub loop-i-preserved : goal.loop-i-preserved
loop-i-preserved c =
    let a = c.args in
    λ g H. lines_more a.w a.h a.k g a.y _ _ _ c.requires.0.wide c.requires.0.few_columns (c.loop-i.invariant g H) (c.lay.ensures.line_laid g H)

pub returns-clause-lines_laid : goal.returns-clause-lines_laid
returns-clause-lines_laid c = λ g H. record { held = λ i m l h. (c.loop-i.invariant g H).held i m (omega arith) h }
