-- `checks::checks::check_numbers` meets its contract: the loop goes on while no number is refused. Assumes nothing.
use Rattle.std.proofs.lemmas.Result.{err_from_is_err_and}
use Rattle.std.proofs.Common.{◌≡◌, refl, sym, arith}
use Rattle.filter.specs.Checks.{first_of, numbers_answer}
use Rattle.checks.proofs.AnswerLaws.{none-more, first-refused}
use Rattle.checks.proofs.checks.check_numbers.Goals as goal

pub loop-i-init : goal.loop-i-init
unfolding first_of
loop-i-init c = refl

pub returns-in_err-number_answer : goal.returns-in_err-number_answer
unfolding numbers_answer
returns-in_err-number_answer c =
    let p = err_from_is_err_and c.from_residual.result c.from_residual.ensures.1 in
    let e = first-refused _ _ _ c.loop-i-test.true c.loop-i.invariant (rw (c.number_answer.ensures, c.judge.ensures, c.range_in.ensures, c.number_at.ensures)) c.in_err-number_answer.was in
    rw (p.1, p.2, ← c.signature_of.ensures, ← c.number_count-i-end.ensures) (sym e)

pub loop-i-preserved : goal.loop-i-preserved
loop-i-preserved c = none-more _ _ c.loop-i.invariant (rw (c.number_answer.ensures, c.judge.ensures, c.range_in.ensures, c.number_at.ensures)) c.in_ok-number_answer.was

pub returns : goal.returns
unfolding numbers_answer
returns c =
    let e : c.loop-i.i ≡ c.number_count-i-end.result = omega arith in
    rw (← c.signature_of.ensures, ← c.number_count-i-end.ensures, ← e) (sym c.loop-i.invariant)
