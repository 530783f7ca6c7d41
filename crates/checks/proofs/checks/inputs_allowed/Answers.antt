-- `checks::checks::inputs_allowed` meets its contract. Assumes nothing.
use Rattle.std.proofs.Common.{◌≡◌, refl, true, false, take, rules}
use Rattle.std.proofs.lemmas.Iterator.{cases_from_all, YieldsList-from_slice}
use Rattle.filter.specs.Checks.{inputs?, allowed?}
use Rattle.checks.proofs.AnswerLaws.{all-taken}
use Rattle.checks.proofs.checks.inputs_allowed.Goals as goal
use borrow.Author.Tests.{tests}

pub returns-then-not-merges : goal.returns-then-not-merges
unfolding inputs?
returns-then-not-merges c = rw (← c.signature_of-signature.ensures, ← c.if-not-merges.ensures)

pub returns : goal.returns
unfolding inputs?
returns c =
    let a = c.args in
    let n = c.signature_of-signature.result.inputs in
    rw (← c.signature_of-signature.ensures, ← c.if-not-merges.ensures) (all-taken (allowed? a.n) a.step.inputs n _ refl (cases_from_all _ _ _ (λ x. allowed? a.n x ≡ true) (λ x. allowed? a.n x ≡ false) c.all.ensures.ran (YieldsList-from_slice (take n a.step.inputs) (search rules)) (λ x q k. search (rules, tests)) (λ x q k. search (rules, tests))))
