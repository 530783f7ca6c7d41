-- `text_field::wholes::digits` meets its contract. The loop keeps that the rest read on from n is the whole read from 0, and that n fits its digits. Assumes nothing.
use native.Mathlib.Nat.{pow-zero}
use mathlib.Core.Path.{refl, sym, ◌∙◌}
use borrow.Author.Rules.{rules}
use native.Mathlib.Omega.{arith}
use Rattle.text_field.proofs.DigitNumbers.{place-small, place-times, digits-none, digits_long, digit-some, counting_more, counting-other, counting-end}
use Rattle.text_field.proofs.wholes.digits.Goals as goal
use Rattle.text_field.proofs.wholes.digits.Goals.{then-f-eq0-via-then-f-eq0, then-f-eq0-via-else-f-eq0+then-most-f}

pub returns-then-f-eq0 : goal.returns-then-f-eq0
returns-then-f-eq0 c = elim c.then-f-eq0.branch [ then-f-eq0-via-then-f-eq0 w ↦ sym (digits-none _ _ _ w.if-f-eq0.true) | then-f-eq0-via-else-f-eq0+then-most-f w ↦ sym (digits_long _ _ _ w.if-most-f.true) ]

pub loop-x-init : goal.loop-x-init
loop-x-init c = record { hi = omega arith; some = omega (arith, c.if-f-eq0.false); few = omega arith; small = rw (pow-zero) (omega arith); rest = refl }

pub returns-in_err-n : goal.returns-in_err-n
returns-in_err-n c = c.from_residual.ensures ∙ counting-other _ _ _ _ _ c.loop-x.invariant (search rules) (sym c.digit.ensures ∙ c.in_err-n.was)

pub overflow_mul-n : goal.overflow_mul-n
overflow_mul-n c =
    omega (arith, place-times c.args.base c.loop-x.n (search rules) (place-small c.args.base _ _ (search rules) (search rules) (search rules) c.loop-x.invariant.small))

pub overflow_add-n : goal.overflow_add-n
overflow_add-n c =
    let d = digit-some c.args.base _ _ (sym c.digit.ensures ∙ c.in_ok-n.was) in
    omega (arith, place-times c.args.base c.loop-x.n (search rules) (place-small c.args.base _ _ (search rules) (search rules) (search rules) c.loop-x.invariant.small))

pub loop-x-preserved : goal.loop-x-preserved
loop-x-preserved c =
    counting_more _ _ _ _ _ _ c.loop-x.invariant (search rules) (sym c.digit.ensures ∙ c.in_ok-n.was)

pub returns : goal.returns
returns c = counting-end _ _ _ _ _ c.loop-x.invariant (search rules)
