-- A rectangle that holds the canvas. Only the code needs this definition: no promise to a caller cites it. Assumes nothing.
use Rattle.std.specs.Prelude.{ℕ, Bool, ◌&&◌, eqb, leb}
use Rattle.filter.specs.declared.Rect.{Rect}

unfoldable pub covers? : ℕ → ℕ → Rect → Bool
covers? w h r = eqb r.left 0 && (leb w r.right && (eqb r.top 0 && leb h r.bottom))
