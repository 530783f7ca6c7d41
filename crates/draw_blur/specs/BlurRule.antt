-- A blur as a rule for lines. Only the code needs this definition: no promise to a caller cites it. Assumes nothing.
use Rattle.std.specs.Prelude.{ℕ}
use Rattle.window.specs.Window.{passes}
use Rattle.draw_window.specs.LineRules.{Rule}

-- the passes of a blur of d
unfoldable pub blurs : ℕ → Rule
blurs d n f x = passes n d f x
