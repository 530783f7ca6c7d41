-- `layers::check_steps` meets its contract: each turn adds a step to the answer. Assumes nothing.
use Rattle.std.proofs.Common.{ℕ, subst}
use Rattle.layers.proofs.AnswerSoFar.{Answered, answered-none, answered-more, step-taken, all-taken}
use Rattle.layers.proofs.check_steps.Goals as goal

pub loop-n-init : goal.loop-n-init
loop-n-init c = answered-none _ _ _

pub loop-n-preserved : goal.loop-n-preserved
loop-n-preserved c =
    let k = c.check_next-answer.ensures in
    answered-more _ _ _ c.loop-n.n c.loop-n.answer c.loop-n.invariant _ (step-taken c.args.count c.loop-n.n c.args.steps.now c.requires _ c.loop-n-test.true) _ k.value k.flood_bytes

pub returns : goal.returns
returns c =
    let e = all-taken c.args.count c.loop-n.n c.args.steps.now c.requires c.loop-n.auto.n-end c.loop-n-test.false in
    let a = subst (λ (k : ℕ). Answered c.args.width c.args.height c.args.steps.now k c.loop-n.answer) e c.loop-n.invariant in
    record { answers = a.is; floods = a.floods }
