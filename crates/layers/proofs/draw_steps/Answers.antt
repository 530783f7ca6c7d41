-- `layers::draw_steps` meets its contract: each turn draws a step, where the call is accepted. Assumes nothing.
use Rattle.std.proofs.Common.{◌≡◌, ℕ, subst}
use Rattle.layers.proofs.AnswerSoFar.{step-taken, below-taken, all-taken}
use Rattle.layers.proofs.Progress.{Progress, progress-none, progress-ready, progress-more, progress-done}
use Rattle.layers.proofs.draw_steps.Goals as goal

pub loop-n-init : goal.loop-n-init
loop-n-init c = progress-none _ _ _ _ _ _ _ _ c.none_so_far-so_far.ensures

pub draw_next-so_far-requires : goal.draw_next-so_far-requires
draw_next-so_far-requires c =
    let s = c.args in
    let here = step-taken s.sheet.count c.loop-n.n s.steps.now c.requires.count_in_bounds _ c.loop-n-test.true in
    progress-ready _ _ _ _ _ _ _ c.requires.ready_for _ (below-taken s.sheet.count c.loop-n.n s.steps.now c.requires.count_in_bounds c.loop-n-test.true) _ _ _ c.loop-n.invariant _ here

pub loop-n-preserved : goal.loop-n-preserved
loop-n-preserved c =
    let s = c.args in
    let k = c.draw_next-so_far.ensures in
    let here = step-taken s.sheet.count c.loop-n.n s.steps.now c.requires.count_in_bounds _ c.loop-n-test.true in
    progress-more _ _ _ _ _ _ _ c.requires.ready_for _ (below-taken s.sheet.count c.loop-n.n s.steps.now c.requires.count_in_bounds c.loop-n-test.true) _ _ _ c.loop-n.invariant _ here _ _ _ k.next_drawn k.scratch_after

pub returns : goal.returns
returns c =
    let s = c.args in
    let e = all-taken s.sheet.count c.loop-n.n s.steps.now c.requires.count_in_bounds c.loop-n.auto.n-end c.loop-n-test.false in
    progress-done _ _ _ _ _ _ _ c.requires.ready_for _ _ _ (subst (λ (k : ℕ). Progress s.sheet s.steps.now s.source.now s.workspace.now s.scratch.now s.call s.answer k c.loop-n.workspace c.loop-n.scratch c.loop-n.so_far) e c.loop-n.invariant)
