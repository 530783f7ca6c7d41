-- `draw_blur::blur_across` meets its contract: each turn adds up to eight rows to the strip. Assumes nothing.
use Prim.Native.Nat.{ℕ, ◌+◌, ◌-◌, ◌*◌, ◌≤◌}
use mathlib.Core.Path.{refl, ◌∙◌}
use mathlib.Core.Logic.{⊎_elim}
use native.Mathlib.Omega.{arith}
use lib.ListN.{length}
use Rattle.buffers.proofs.ShownInputs.{shown-blank}
use Rattle.draw_window.proofs.StripRows.{looked-at-in}
use Rattle.draw_blur.proofs.BlurBanded.{blurs-banded}
use Rattle.draw_blur.proofs.RowsAsLanes.{strip-turn, rows-room}
use Rattle.draw_blur.proofs.blur_across.Goals as goal

-- the rows of a turn end in the strip, and in the buffer
rows-fit : (y count top bottom width n : ℕ) → top ≤ y → y + count ≤ bottom → 4 * ((bottom - top) * width) ≤ n → 4 * ((y - top) * width + count * width) ≤ n
rows-fit y count top bottom width n l m a = omega (arith, rows-room y top bottom count width l m)

pub gather_rows-requires : goal.gather_rows-requires
gather_rows-requires c =
    let w = c.requires.readable.0.sized.wide in
    let S = c.requires.strip_on.0 in
    let t = c.args.strip in
    let L = c.loop-y in
    let i = looked-at-in _ _ _ _ _ _ _ c.looked_at-span.ensures S.some_wide S.wide in
    let room = rows-fit L.y c.min-count.result t.top t.bottom (t.right - t.left) (length L.scratch) L.invariant.low (omega (arith, c.min-count.ensures, c.loop-y-test.true)) (omega (arith, c.requires.strip_on.1, L.invariant.long)) in
    (⊎_elim (λ e. omega (arith, e, i.0, i.1, i.2, w)) (λ e. omega (arith, e, i.0, i.1, i.2, w)) c.pass_lines-o.ensures.1, omega (arith, c.min-count.ensures), room)

pub loop-y-preserved : goal.loop-y-preserved
loop-y-preserved c =
    let a = c.args in
    let S = c.requires.strip_on.0 in
    let n = c.min-count.ensures in
    let i = looked-at-in _ _ _ _ _ _ _ c.looked_at-span.ensures S.some_wide S.wide in
    record {
      low = omega (arith, c.loop-y.invariant.low);
      long = c.gather_rows.ensures.long ∙ c.loop-y.invariant.long;
      rows = strip-turn _ _ _ _ _ _ (shown-blank a.context a.source.now a.workspace.now a.input) (blurs-banded a.d _ c.spread_of-reach.ensures.0) _ _ _ _ a.strip.bottom _ _ _ _ _ _ _ _ _ _
          c.looked_at-span.ensures i.0 S.wide (omega (arith, n)) c.loop-y.invariant.low c.loop-y-test.true (omega (arith, n)) refl c.loop-y.invariant.rows c.deal_rows.ensures.lanes c.pass_lines-o.ensures.0 c.gather_rows.ensures;
    }

pub returns-2 : goal.returns-2
returns-2 c =
    let a = c.args in
    let S = c.requires.strip_on.0 in
    let n = c.min-count.ensures in
    let i = looked-at-in _ _ _ _ _ _ _ c.looked_at-span.ensures S.some_wide S.wide in
    strip-turn _ _ _ _ _ _ (shown-blank a.context a.source.now a.workspace.now a.input) (blurs-banded a.d _ c.spread_of-reach.ensures.0) _ _ _ _ a.strip.bottom _ _ _ _ _ _ _ _ _ _
    c.looked_at-span.ensures i.0 S.wide (omega (arith, n)) c.loop-y.invariant.low c.loop-y-test.true (omega (arith, n)) refl c.loop-y.invariant.rows c.deal_rows.ensures.lanes c.pass_lines-o.ensures.0 c.gather_rows.ensures
