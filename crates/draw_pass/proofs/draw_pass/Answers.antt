-- `draw_pass::draw_pass` meets its contract: the strip is worked across, then down, and its rows are stored. Assumes nothing.
use mathlib.Core.Path.{refl}
use Rattle.buffers.proofs.ShownInputs.{shown-blank}
use Rattle.draw_window.proofs.BandIsEnough.{drawn-both}
use Rattle.draw_pass.proofs.PassByRule.{rule-banded, pass-is}
use Rattle.draw_pass.proofs.draw_pass.Goals as goal

pub returns-clause-pass_drawn : goal.returns-clause-pass_drawn
returns-clause-pass_drawn c =
    let a = c.args in
    let A = rule-banded a.pass a.dx _ _ refl refl in
    let D = rule-banded a.pass a.dy _ _ c.back_of-back.ensures.0 c.ahead_of-ahead.ensures.0 in
    drawn-both _ _ _ _ _ _ _ _ _ _ _ (shown-blank a.context a.source.now a.workspace.now a.input) A D
    (pass-is a.pass a.context.w a.context.h a.dx a.dy _)
    a.rect _ _ _ _ _ _ _ c.requires.input_value.3 c.looked_at-span.ensures c.across.ensures c.down-at.ensures.0 c.store_rows.ensures
