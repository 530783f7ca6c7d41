-- `plans::next_damages` meets its contract: an accepted step has its rectangle. Assumes nothing.
use Rattle.std.proofs.Common.{◌≡◌, true, false, Ok, Err, is_err, refl}
use mathlib.Core.Path.{sym, ap, ◌∙◌}
use native.Mathlib.Omega.{arith}
use lib.ListN.{length, length-set}
use Rattle.filter.specs.declared.Input.TheVariants.{Source}
use Rattle.filter.specs.Limits.{longest_side}
use Rattle.filter.specs.Answers.{Answer, accepted?}
use Rattle.damage.specs.InputRects.{rect_of}
use Rattle.checks.proofs.Acceptance.{accepted-step}
use Rattle.damage.proofs.DamagesSoFar.{within_more}
use Rattle.plans.proofs.Rects.{more_within}
use Rattle.plans.proofs.next_damages.Goals as goal

pub returns-then-is_err : goal.returns-then-is_err
returns-then-is_err c = (omega (arith, c.requires.n_lt_most_steps.3), c.requires.rects_len.0, c.requires.rects_len.1)

-- a step that is not refused is accepted
passed : (a b : Answer) → a ≡ b → is_err a ≡ false → accepted? b ≡ true
unfolding accepted?
passed (Ok u) b e h = rw (← e) refl
passed (Err r) b e h = cc

pub bounds-region-requires : goal.bounds-region-requires
bounds-region-requires c =
    let a = c.args in
    let A = accepted-step a.w a.h a.n a.step (passed _ _ c.check_step.ensures (sym c.is_err.ensures.value ∙ c.if-is_err.false)) in
    (omega (arith, A.region.right, c.requires.n_lt_most_steps.1), omega (arith, A.region.bottom, c.requires.n_lt_most_steps.2))

pub damage_of-rect-requires : goal.damage_of-rect-requires
damage_of-rect-requires c =
    let a = c.args in
    let A = accepted-step a.w a.h a.n a.step (passed _ _ c.check_step.ensures (sym c.is_err.ensures.value ∙ c.if-is_err.false)) in
    (rw c.resolve-made.ensures A.numbers.shape, c.requires.rects_len.1, c.requires.n_lt_most_steps.1, c.requires.n_lt_most_steps.2)

pub with_rect-requires : goal.with_rect-requires
with_rect-requires c =
    let a = c.args in
    (c.requires.n_lt_most_steps.0, c.requires.n_lt_most_steps.3, within_more a.w a.h c.damage_of-rect.result c.requires.n_lt_most_steps.1 c.requires.n_lt_most_steps.2 c.damage_of-rect.ensures.1)

pub returns : goal.returns
unfolding rect_of
returns c =
    let a = c.args in
    let D = c.damage_of-rect in
    let E = c.with_rect.ensures in
    let z = within_more a.w a.h D.result c.requires.n_lt_most_steps.1 c.requires.n_lt_most_steps.2 D.ensures.1 in (
      omega (arith, E.count, E.small, c.requires.n_lt_most_steps.3),
      ap length E.rects ∙ length-set a.damages.rects a.n D.result ∙ c.requires.rects_len.0,
      rw E.rects (more_within longest_side longest_side a.changed (c.requires.rects_len.1.each Source) a.n D.result a.damages.rects (omega (arith, c.requires.n_lt_most_steps.0, c.requires.rects_len.0)) z c.requires.rects_len.1),
    )
