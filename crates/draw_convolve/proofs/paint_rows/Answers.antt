-- `draw_convolve::paint_rows` meets its contract: each turn draws one row more. Assumes nothing.
use Rattle.std.proofs.Common.{arith}
use Rattle.buffers.proofs.DrawnRows.{drawn-none, drawn-as, drawn-more}
use Rattle.draw_convolve.proofs.ConvolvedRows.{holds_row}
use Rattle.draw_convolve.proofs.paint_rows.Goals as goal

pub loop-y-init : goal.loop-y-init
loop-y-init c = record { within = omega arith; drawn = λ g H. drawn-none _ _ _ _ _ _ (λ x y i. absurd (omega (arith, i.top, i.bottom))) }

pub loop-y-preserved : goal.loop-y-preserved
loop-y-preserved c =
    let y = c.loop-y.y in
    let a = c.args in
    let W = c.requires.in_limits.2 in
    record {
      within = omega arith;
      drawn = λ g H. drawn-more _ _ _ _ _ _ _ _ _ _ _ (c.loop-y.invariant.drawn g H)
          (c.paint.ensures.row_from g (holds_row a.context.w a.context.h a.kernel.now.convolution a.rect.top a.rect.bottom y g a.scratch.now (omega arith) (omega arith) H))
          (omega arith) (omega (arith, c.requires.in_limits.3)) W.right (omega (arith, W.bottom));
    }

pub returns : goal.returns
returns c =
    λ g H. drawn-as _ _ _ _ _ _ _ _
    (λ x y i. record { left = i.left; right = i.right; top = i.top; bottom = omega (arith, i.bottom, i.top, c.loop-y.invariant.within) })
    (λ x y i. record { left = i.left; right = i.right; top = i.top; bottom = omega (arith, i.bottom) })
    (c.loop-y.invariant.drawn g H)
