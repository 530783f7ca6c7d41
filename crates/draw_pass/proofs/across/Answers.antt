-- `draw_pass::across` meets its contract, kind by kind. Assumes nothing.
use Rattle.draw_pass.specs.PassRule.{rule_of}
use Rattle.draw_pass.proofs.across.Goals as goal

pub returns-in-Blur : goal.returns-in-Blur
unfolding rule_of
returns-in-Blur c = rw c.in-Blur.is c.blur_across.ensures

pub returns-in-Erode : goal.returns-in-Erode
unfolding rule_of
returns-in-Erode c = rw c.in-Erode.is c.extreme_across.ensures

pub returns-in-Dilate : goal.returns-in-Dilate
unfolding rule_of
returns-in-Dilate c = rw c.in-Dilate.is c.extreme_across-in-Dilate.ensures
