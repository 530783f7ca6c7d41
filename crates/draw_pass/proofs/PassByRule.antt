-- A pass by its rule: a band of each line is enough, and the rule across and then down makes the step. Assumes nothing.
use Prim.Native.Nat.{ℕ}
use mathlib.Core.Path.{◌≡◌, refl}
use Rattle.kernel_fold.specs.declared.Extreme.TheVariants.{Least, Largest}
use Rattle.kernel_fold.specs.Operation.{operation}
use Rattle.kernel_morph.specs.Extremes.{neutral}
use Rattle.filter.specs.declared.Pass.{Pass}
use Rattle.filter.specs.Picture.{Picture, each}
use Rattle.filter.specs.Kinds.{blurred, eroded, dilated, passed, back_of, ahead_of}
use Rattle.draw_window.specs.LineRules.{across_of, down_of}
use Rattle.draw_window.proofs.BandedRules.{Banded}
use Rattle.draw_blur.specs.BlurRule.{blurs}
use Rattle.draw_blur.proofs.BlurBanded.{blurs-banded}
use Rattle.draw_morph.specs.ExtremeRule.{extremes}
use Rattle.draw_morph.proofs.ExtremeBanded.{extremes-banded}
use Rattle.draw_pass.specs.PassRule.{rule_of}

sight-banded : (p : Pass) (d : ℕ) → Banded (rule_of p d) (back_of p d) (ahead_of p d)
unfolding rule_of
sight-banded Pass.Blur d = blurs-banded d _ refl
sight-banded Pass.Erode r = extremes-banded Least r r
sight-banded Pass.Dilate r = extremes-banded Largest r r

pub rule-banded : (p : Pass) (d back ahead : ℕ) → back ≡ back_of p d → ahead ≡ ahead_of p d → Banded (rule_of p d) back ahead
rule-banded p d back ahead b a = rw (b, a) (sight-banded p d)

pub pass-is : (p : Pass) (w h dx dy : ℕ) (q : Picture) → down_of (rule_of p dy) h (across_of (rule_of p dx) w q) ≡ each (passed w h p dx dy) q
unfolding rule_of down_of across_of blurs extremes operation neutral passed blurred eroded dilated
pass-is Pass.Blur w h dx dy q = refl
pass-is Pass.Erode w h rx ry q = refl
pass-is Pass.Dilate w h rx ry q = refl
