-- `draw_point::offset::paint_offset` meets its contract: a row off the canvas is transparent, and another shows the columns that were loaded.
-- Assumes nothing.
use Prim.Native.Nat.{◌+◌, ◌*◌, ◌≤◌}
use mathlib.Core.Path.{refl, sym, ◌∙◌}
use native.Mathlib.Omega.{arith}
use lib.ListN.{length}
use Rattle.pixel.proofs.PaintedRows.{painted-as}
use Rattle.filter.specs.Kinds.{work_of, reads}
use Rattle.filter.specs.Accepted.{Measured}
use Rattle.buffers.proofs.RowsFit.{sized-limits}
use Rattle.buffers.proofs.ShownInputs.{shown-blank}
use Rattle.buffers.proofs.LoadedRows.{part-long, painted-row}
use Rattle.buffers.proofs.Seen.{held}
use Rattle.draw_point.proofs.ShiftedRows.{shifted-above, shifted-below, cut-part, shift_small, moved-shifted}
use Rattle.draw_point.proofs.offset.paint_offset.Goals as goal

pub overflow_add-below : goal.overflow_add-below
unfolding Measured
overflow_add-below c =
    let D = c.requires.0 in
    let R = c.requires.1 in
    omega (arith, D.measured.1.minus, R.high, D.drawable.readable.sized.high)

pub returns-then-below-dy : goal.returns-then-below-dy
unfolding work_of
returns-then-below-dy c =
    let a = c.args in
    record { row_drawn = painted-as _ _ _ _ _ _ _ (λ x l m. sym (shifted-above a.dx a.dy _ x a.part.y c.if-below-dy.true)) c.paint_none.ensures; work_buffer = record { long = refl } }

pub returns-then-context-v : goal.returns-then-context-v
unfolding work_of
returns-then-context-v c =
    let a = c.args in
    record { row_drawn = painted-as _ _ _ _ _ _ _ (λ x l m. sym (shifted-below a.dx a.dy _ x a.part.y a.context.w a.context.h (shown-blank a.context _ _ a.i) c.if-below-dy.false c.if-context-v.true)) c.paint_none-then-context-v.ensures; work_buffer = record { long = refl } }

pub overflow_add-part : goal.overflow_add-part
unfolding Measured
overflow_add-part c =
    let D = c.requires.0 in
    let R = c.requires.1 in
    omega (arith, D.measured.0.minus, R.order, R.wide, D.drawable.readable.sized.wide)

pub overflow_add-part-2 : goal.overflow_add-part-2
unfolding Measured
overflow_add-part-2 c =
    let D = c.requires.0 in
    let R = c.requires.1 in
    omega (arith, D.measured.0.minus, R.wide, D.drawable.readable.sized.wide)

pub copy_own-requires : goal.copy_own-requires
unfolding reads
copy_own-requires c =
    let a = c.args in
    let D = c.requires.0 in
    let R = c.requires.1 in
    let K = cut-part a.context.w a.dx a.part _ _ R.order c.cut-first.ensures c.cut-last.ensures in
    record { sized = (D.drawable.readable.sized, record { high = omega (arith, c.if-context-v.false, R.high); order = K.0; wide = K.1 }); input_value = (D.earlier.0, omega (arith, c.requires.2, K.2)) }

pub load-requires : goal.load-requires
unfolding reads
load-requires c =
    let a = c.args in
    let D = c.requires.0 in
    let R = c.requires.1 in
    let K = cut-part a.context.w a.dx a.part _ _ R.order c.cut-first.ensures c.cut-last.ensures in
    let C = c.copy_own.ensures in
    record {
      readable = (D.drawable.readable, record { high = omega (arith, c.if-context-v.false, R.high); order = K.0; wide = K.1 });
      input_value = (D.earlier.0, omega (arith, C.long, c.requires.2, K.2));
      own_held = held a.context a.i _ a.source.now a.workspace.now _ _ _ C;
    }

pub start-lo-requires : goal.start-lo-requires
start-lo-requires c =
    let D = c.requires.0 in
    let R = c.requires.1 in
    (sized-limits c.args.context _ _ D.drawable.readable.sized, record { high = R.high; order = omega arith; wide = omega arith })

pub overflow_mul-hi : goal.overflow_mul-hi
overflow_mul-hi c =
    omega (arith, c.requires.0.drawable.readable.sized.wide)

pub overflow_add-hi : goal.overflow_add-hi
overflow_add-hi c =
    omega (arith, c.requires.0.drawable.readable.sized.wide, c.start-lo.ensures.from_bound.1)

pub overflow_sub-last : goal.overflow_sub-last
overflow_sub-last c =
    let a = c.args in
    let R = c.requires.1 in
    (cut-part a.context.w a.dx a.part _ _ R.order c.cut-first.ensures c.cut-last.ensures).0

pub overflow_add-right : goal.overflow_add-right
unfolding Measured
overflow_add-right c =
    let a = c.args in
    let D = c.requires.0 in
    let R = c.requires.1 in
    let small = shift_small a.dx a.context.w a.part.from _ D.measured.0 D.drawable.readable.sized.wide (omega (arith, R.order, R.wide)) c.cut-first.ensures in
    omega (arith, small)

pub slice_bounds-shift_row-end : goal.slice_bounds-shift_row-end
slice_bounds-shift_row-end c =
    omega (arith, c.requires.0.drawable.readable.sized.workspace, c.start-lo.ensures.from_bound.0)

pub shift_row-requires : goal.shift_row-requires
unfolding Measured
shift_row-requires c =
    let L = c.load.ensures in
    let C = c.copy_own.ensures in
    let a = c.args in
    let D = c.requires.0 in
    let R = c.requires.1 in
    let K = cut-part a.context.w a.dx a.part _ _ R.order c.cut-first.ensures c.cut-last.ensures in
    let small = shift_small a.dx a.context.w a.part.from _ D.measured.0 D.drawable.readable.sized.wide (omega (arith, R.order, R.wide)) c.cut-first.ensures in
    let fits : c.start-lo.result + 4 * a.context.w ≤ length a.workspace.now = omega (arith, c.start-lo.ensures.from_bound.0, D.drawable.readable.sized.workspace) in
    let long = part-long c.start-lo.result a.context.w a.workspace.now fits in
    record { w_in_bounds = (omega (arith, K.2, L.long, C.long, c.requires.2), omega (arith, K.1, D.drawable.readable.sized.wide), small, D.measured.0.minus); from_le_to = (R.order, omega (arith, R.wide, D.drawable.readable.sized.wide), omega (arith, long, R.wide)) }

pub returns : goal.returns
unfolding work_of
returns c =
    let L = c.load.ensures in
    let C = c.copy_own.ensures in
    let a = c.args in
    let D = c.requires.0 in
    let R = c.requires.1 in
    let fits : c.start-lo.result + 4 * a.context.w ≤ length a.workspace.now = omega (arith, c.start-lo.ensures.from_bound.0, D.drawable.readable.sized.workspace) in
    record {
      row_drawn = painted-row c.start-lo.result a.context.w a.workspace.now fits _ _ _ _ _ _ c.start-lo.ensures.value R.order R.wide
          (moved-shifted a.dx a.dy _ a.context.w a.context.h a.part.y _ a.part.from a.part.to _ _ _ _ (shown-blank a.context _ _ a.i) R.order c.cut-first.ensures c.cut-last.ensures c.if-below-dy.false refl L)
          c.shift_row.ensures;
      work_buffer = record { long = L.long ∙ C.long };
    }
