-- `render::views::view_at` meets its contract, in the order of its tests. Assumes nothing.
use mathlib.Core.Path.{sym, ap, ◌∙◌}
use Prim.Native.Nat.{ℕ, ◌*◌}
use native.Mathlib.Omega.{arith}
use native.Mathlib.Nat.{mul-le-mul_right}
use Rattle.checks.proofs.Acceptance.{canvas-within, count-within}
use Rattle.render.proofs.LayerViews.{bad-canvas, bad-count, bad-length, bad-layer, good-layer, layer-ends}
use Rattle.render.proofs.views.view_at.Goals as goal

pub returns-then-not-is_canvas : goal.returns-then-not-is_canvas
returns-then-not-is_canvas c = (bad-canvas _ _ _ _ _ (sym c.is_canvas.ensures ∙ c.if-not-is_canvas.true), omega arith)

pub returns-then-not-is_count : goal.returns-then-not-is_count
returns-then-not-is_count c = (bad-count _ _ _ _ _ (sym c.is_canvas.ensures ∙ c.if-not-is_canvas.false) (sym c.is_count.ensures ∙ c.if-not-is_count.true), omega arith)

pub picture_size-size-requires : goal.picture_size-size-requires
picture_size-size-requires c = let k = canvas-within _ _ (sym c.is_canvas.ensures ∙ c.if-not-is_canvas.false) in (k.wide, k.high)

pub overflow_mul-steps : goal.overflow_mul-steps
overflow_mul-steps c =
    let s = c.args in
    omega (arith, c.picture_size-size.ensures.1, mul-le-mul_right c.picture_size-size.result (count-within s.steps (sym c.is_count.ensures ∙ c.if-not-is_count.false)).1)

pub returns-then-long-steps : goal.returns-then-long-steps
returns-then-long-steps c =
    let s = c.args in
    (bad-length _ _ _ _ _ (sym c.is_canvas.ensures ∙ c.if-not-is_canvas.false) (sym c.is_count.ensures ∙ c.if-not-is_count.false) (λ e. c.if-long-steps.true (e ∙ ap (λ (n : ℕ). s.steps * n) (sym c.picture_size-size.ensures.0))), omega arith)

pub returns-then-steps-n : goal.returns-then-steps-n
returns-then-steps-n c =
    let s = c.args in
    (bad-layer _ _ _ _ _ (sym c.is_canvas.ensures ∙ c.if-not-is_canvas.false) (sym c.is_count.ensures ∙ c.if-not-is_count.false) (c.if-long-steps.false ∙ ap (λ (n : ℕ). s.steps * n) c.picture_size-size.ensures.0) c.if-steps-n.true, omega arith)

pub overflow_mul-result : goal.overflow_mul-result
overflow_mul-result c =
    let s = c.args in
    omega (arith, c.if-steps-n.false, c.picture_size-size.ensures.1, mul-le-mul_right c.picture_size-size.result (count-within s.steps (sym c.is_count.ensures ∙ c.if-not-is_count.false)).1, mul-le-mul_right c.picture_size-size.result c.if-steps-n.false)

pub returns : goal.returns
returns c =
    let s = c.args in
    let e = c.if-long-steps.false ∙ ap (λ (n : ℕ). s.steps * n) c.picture_size-size.ensures.0 in (
      good-layer _ _ _ _ _ (sym c.is_canvas.ensures ∙ c.if-not-is_canvas.false) (sym c.is_count.ensures ∙ c.if-not-is_count.false) e _ c.picture_size-size.ensures.0 c.if-steps-n.false,
      layer-ends _ _ _ _ _ (sym c.is_canvas.ensures ∙ c.if-not-is_canvas.false) (sym c.is_count.ensures ∙ c.if-not-is_count.false) e _ c.picture_size-size.ensures.0 c.if-steps-n.false,
    )
