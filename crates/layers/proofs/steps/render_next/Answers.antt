-- `layers::steps::render_next` meets its contract: its layer is drawn in its context, and its space joins those so far. Assumes nothing.
use native.Mathlib.Omega.{arith}
use Rattle.layers.proofs.StepInContext.{context-ready, context-rendered}
use Rattle.layers.proofs.steps.render_next.Goals as goal

pub area-requires : goal.area-requires
area-requires c =
    let R = c.requires in
    let g = R.accepted.region in
    rw c.bounds-region.ensures (record { right = omega (arith, g.right, R.sized.wide); bottom = omega (arith, g.bottom, R.sized.high) })

pub render_step-requires : goal.render_step-requires
render_step-requires c =
    let C = c.context_for-context.ensures in
    context-ready _ _ _ _ c.args.step _ _ _ C.0 C.1 C.2 C.3 C.4 c.resolve.ensures c.bounds-region.ensures _ _ _ c.requires

pub returns : goal.returns
returns c =
    let C = c.context_for-context.ensures in
    let T = context-rendered c.context_for-context.result _ _ _ c.args.step _ _ _ C.0 C.1 C.2 C.3 C.4 c.resolve.ensures c.bounds-region.ensures _ _ _ c.render_step.ensures.context_rendered in
    record { rendered = record { layer = T; count = c.with_space.ensures.1; spaces = c.with_space.ensures.2 }; work_buffer = c.render_step.ensures.work_buffer }
