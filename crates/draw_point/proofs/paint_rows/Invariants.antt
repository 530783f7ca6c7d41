use Prim.Native.Nat.{◌≤◌, max}
use Rattle.buffers.specs.Drawn.{band}
use Rattle.draw_point.specs.Kindless.{ShapeDrawn}
use Rattle.draw_point.specs.RowDrawn.{WorkRow}
use Rattle.draw_point.proofs.paint_rows.Given as goal

abbrev pub invariant-loop-y : goal.invariant-loop-y
invariant-loop-y l =
    (l.rect.top ≤ l.y) × (l.y ≤ max l.rect.top l.rect.bottom) × ShapeDrawn l.context l.shape (band l.rect.left l.rect.right l.rect.top l.y) l.source l.initial.workspace l.workspace
    × WorkRow l.rect.left l.rect.right l.a × WorkRow l.rect.left l.rect.right l.g × WorkRow l.rect.left l.rect.right l.row
