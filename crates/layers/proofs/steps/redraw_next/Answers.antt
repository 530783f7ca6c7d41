-- `layers::steps::redraw_next` meets its contract: its rectangle is worked out from those so far, and drawn in its context. Assumes nothing.
use mathlib.Core.Path.{ap, ◌∙◌}
use mathlib.Core.List.{List}
use lib.ListN.{set}
use native.Mathlib.Omega.{arith}
use Rattle.pixel.specs.declared.Space.{Space}
use Rattle.filter.specs.declared.Input.TheVariants.{Source}
use Rattle.damage.specs.InputRects.{rect_of}
use Rattle.damage.proofs.DamagesSoFar.{within_more, all_within_more}
use Rattle.layers.proofs.StepInContext.{context-ready, damage-is-inside, damage-of-step, context-redrawn}
use Rattle.layers.proofs.steps.redraw_next.Goals as goal

pub bounds-requires : goal.bounds-requires
unfolding rect_of
bounds-requires c =
    let S = c.requires.step_ready.sized in
    let k = c.requires.rects_ready.within.each Source in
    (omega (arith, S.wide, k.right), omega (arith, S.high, k.bottom))

pub damage_of-rect-requires : goal.damage_of-rect-requires
damage_of-rect-requires c =
    let S = c.requires.step_ready.sized in
    (rw c.resolve-made.ensures c.requires.step_ready.accepted.numbers.shape, rw c.bounds.ensures (all_within_more _ _ _ _ S.wide S.high c.requires.rects_ready.within), S.wide, S.high)

pub area-requires : goal.area-requires
area-requires c =
    let S = c.requires.step_ready.sized in
    within_more _ _ _ S.wide S.high c.damage_of-rect.ensures.1

pub redraw_step-requires : goal.redraw_step-requires
redraw_step-requires c =
    let C = c.context_for-context.ensures in
    let D = c.damage_of-rect.ensures in (
      context-ready _ _ _ _ c.args.step _ _ _ C.0 C.1 C.2 C.3 C.4 c.resolve-made.ensures c.bounds-region.ensures _ _ _ c.requires.step_ready,
      damage-is-inside _ _ _ _ c.args.step _ _ _ C.0 C.1 C.2 C.3 C.4 c.resolve-made.ensures c.bounds-region.ensures c.args.source.now c.args.workspace.now _ _ D.0 D.1,
    )

pub with_rect-requires : goal.with_rect-requires
with_rect-requires c =
    let S = c.requires.step_ready.sized in
    (omega (arith, S.steps), c.requires.rects_ready.few, within_more _ _ _ S.wide S.high c.damage_of-rect.ensures.1)

pub with_space-requires : goal.with_space-requires
with_space-requires c =
    let S = c.requires.step_ready.sized in
    omega (arith, S.steps)

pub returns : goal.returns
returns c =
    let a = c.args in
    let C = c.context_for-context.ensures in
    let D = c.damage_of-rect.ensures in
    let e = rw c.bounds.ensures at D.0 in
    let f = damage-of-step c.context_for-context.result _ _ _ a.step _ _ _ C.0 C.1 C.2 C.3 C.4 c.resolve-made.ensures c.bounds-region.ensures a.source.now a.workspace.now _ _ e D.1 in
    let T = context-redrawn c.context_for-context.result _ _ _ a.step _ _ _ C.0 C.1 C.2 C.3 C.4 c.resolve-made.ensures c.bounds-region.ensures _ _ _ _ e D.1 _ c.redraw_step.ensures.context_redrawn in
    let R = rw f at c.with_rect.ensures in
    let P = c.with_space.ensures in
    record { redrawn = record { layer = T; rects = P.0 ∙ R.rects; count = P.1 ∙ R.count; small = R.small; spaces = P.2 ∙ ap (λ (zs : List Space). set zs a.n a.step.space) R.spaces }; work_buffer = c.redraw_step.ensures.work_buffer }
