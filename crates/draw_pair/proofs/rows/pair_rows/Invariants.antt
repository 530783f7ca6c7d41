use Rattle.window.specs.Limits.{longest_row}
use Rattle.std.proofs.Common.{◌≤◌, ◌≡◌, length}
use Prim.Native.Nat.{max}
use Rattle.pixel.specs.declared.Pixel.{Pixel}
use Rattle.buffers.specs.Drawn.{band}
use Rattle.draw_pair.specs.Pair.{PairDrawn}
use Rattle.draw_pair.specs.Code.{Pairs}
use Rattle.draw_pair.proofs.rows.pair_rows.Given as goal

abbrev pub invariant-loop-y : goal.invariant-loop-y
invariant-loop-y g l =
    (l.rect.top ≤ l.y) × (l.y ≤ max l.rect.top l.rect.bottom)
    × ((h : Pixel → Pixel → Pixel) → Pairs (goal.F-post g l.kernel) h
    → PairDrawn l.context h l.i l.j (band l.rect.left l.rect.right l.rect.top l.y) l.source l.initial.workspace l.workspace)
    × (length l.f ≡ longest_row) × (length l.g ≡ longest_row)
