-- `render::settling::finish` meets its contract: cleared where the call was accepted. Assumes nothing.
use Rattle.std.proofs.Common.{rules, refl, ◌≡◌, true}
use Rattle.filter.specs.Answers.{accepted?}
use Rattle.filter.proofs.PassedChecks.{refused}
use Rattle.render.proofs.PromisesKept.{if-accepted, if-refused}
use Rattle.render.proofs.settling.finish.Goals as goal

pub returns-in_err-answer-clause-scratch_after : goal.returns-in_err-answer-clause-scratch_after
returns-in_err-answer-clause-scratch_after c = if-refused _ _ _ _ (rw c.in_err-answer.was (refused _)) refl

pub returns-clause-scratch_after : goal.returns-clause-scratch_after
unfolding accepted?
returns-clause-scratch_after c =
    let t : accepted? c.args.answer ≡ true = rw c.in_ok-answer.was refl in
    if-accepted _ _ _ _ t (search rules)
