use Prim.Native.Nat.{◌≤◌, max}
use Rattle.buffers.specs.Drawn.{band}
use Rattle.buffers.specs.Context.{DrawnIn}
use Rattle.buffers.specs.Strip.{strip_at}
use Rattle.buffers.proofs.store_rows.Given as goal

abbrev pub invariant-loop-y : goal.invariant-loop-y
invariant-loop-y l =
    (l.rect.top ≤ l.y) × (l.y ≤ max l.rect.top l.rect.bottom) × DrawnIn l.context (band l.rect.left l.rect.right l.rect.top l.y) (strip_at l.strip l.at l.rect.left l.rect.right l.first) l.initial.workspace l.workspace
