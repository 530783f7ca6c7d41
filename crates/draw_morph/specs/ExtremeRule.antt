-- The smallest or largest as a rule for lines. Only the code needs this definition: no promise to a caller cites it. Assumes nothing.
use Rattle.std.specs.Prelude.{ℕ}
use Rattle.kernel_fold.specs.declared.Extreme.{Extreme}
use Rattle.kernel_morph.specs.Extremes.{extreme}
use Rattle.draw_window.specs.LineRules.{Rule}

-- over the places from `back` before to `ahead` behind, whatever the line's length
unfoldable pub extremes : Extreme → ℕ → ℕ → Rule
extremes op back ahead n f x = extreme op back ahead f x
