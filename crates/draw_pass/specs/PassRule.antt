-- A kind of pass as a rule for lines. Only the code needs this definition: no promise to a caller cites it. Assumes nothing.
use Rattle.std.specs.Prelude.{ℕ}
use Rattle.kernel_fold.specs.declared.Extreme.TheVariants.{Least, Largest}
use Rattle.filter.specs.declared.Pass.{Pass}
use Rattle.draw_window.specs.LineRules.{Rule}
use Rattle.draw_blur.specs.BlurRule.{blurs}
use Rattle.draw_morph.specs.ExtremeRule.{extremes}

unfoldable pub rule_of : Pass → ℕ → Rule
rule_of Pass.Blur d = blurs d
rule_of Pass.Erode r = extremes Least r r
rule_of Pass.Dilate r = extremes Largest r r
