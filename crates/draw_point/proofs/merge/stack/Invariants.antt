use Prim.Native.Nat.{◌-◌, ◌≤◌, max}
use Rattle.pixel.specs.Bytes.{ValidRow}
use Rattle.buffers.specs.Shown.{shown}
use Rattle.draw_point.specs.RowDrawn.{WorkRow, RowStacked}
use Rattle.draw_point.proofs.merge.stack.Given as goal

abbrev pub invariant-loop-j : goal.invariant-loop-j
invariant-loop-j l =
    (1 ≤ l.j) × (l.j ≤ max 1 l.count) × RowStacked (shown l.context l.source l.workspace) l.inputs l.j l.part l.initial.row l.row
    × ValidRow l.row (l.part.to - l.part.from) × WorkRow l.part.from l.part.to l.a × WorkRow l.part.from l.part.to l.g
