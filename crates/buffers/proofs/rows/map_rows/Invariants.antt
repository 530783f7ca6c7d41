use Rattle.std.proofs.Common.{◌≤◌}
use Prim.Native.Nat.{max}
use Rattle.pixel.specs.declared.Pixel.{Pixel}
use Rattle.buffers.specs.Drawn.{band}
use Rattle.buffers.specs.Shown.{shown}
use Rattle.buffers.specs.Context.{DrawnIn}
use Rattle.buffers.specs.Kernels.{Maps}
use Rattle.buffers.proofs.rows.map_rows.Given as goal

abbrev pub invariant-loop-y : goal.invariant-loop-y
invariant-loop-y g l =
    (l.rect.top ≤ l.y) × (l.y ≤ max l.rect.top l.rect.bottom)
    × ((f : Pixel → Pixel) → Maps (goal.F-post g l.kernel) f
    → DrawnIn l.context (band l.rect.left l.rect.right l.rect.top l.y) (λ x y. f (shown l.context l.source l.initial.workspace l.input x y)) l.initial.workspace l.workspace)
