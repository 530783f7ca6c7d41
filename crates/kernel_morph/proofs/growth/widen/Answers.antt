-- `widen` meets its contract: one growth by three lines or two, or two growths in one pass. Assumes nothing.
use Rattle.kernel_morph.proofs.WidenedWindows.{widened_once, widened_twice, widened-around}
use Rattle.kernel_morph.proofs.growth.widen.Goals as goal

pub returns-then-takes_three-clause-widened : goal.returns-then-takes_three-clause-widened
returns-then-takes_three-clause-widened c =
    let E = c.step.ensures in
    widened-around _ _ _ _ _ _ _ _ _ _ _ _ _ c.stretch_sides-three.ensures (rw (E.0, E.1) at c.fold_around.ensures)

pub returns-then-lines-lt-LONG-clause-widened : goal.returns-then-lines-lt-LONG-clause-widened
returns-then-lines-lt-LONG-clause-widened c =
    let E = c.step-then-lines-lt-LONG.ensures in
    widened_once _ _ _ _ _ _ _ _ _ _ _ _ _ c.stretch-one.ensures (rw (E.0, E.1) at c.fold_lines.ensures)

pub returns-clause-widened : goal.returns-clause-widened
returns-clause-widened c =
    let E = c.step-2.ensures in
    let E₂ = c.step-3.ensures in
    widened_twice _ _ _ _ _ _ _ _ _ _ _ _ _ _ _ c.stretch-one.ensures c.stretch-two.ensures (rw (E.0, E.1, E₂.0, E₂.1) at c.fold_lines_twice.ensures)
