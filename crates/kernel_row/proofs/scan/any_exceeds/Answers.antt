-- `kernel_row::scan::any_exceeds` meets its contract: the marks say whether a pixel passed is not valid. Assumes nothing.
use Rattle.std.proofs.Common.{not, refl, ap, ◌∙◌, arith}
use Rattle.pixel.specs.declared.Pixel.{Pixel}
use Rattle.pixel.specs.Bytes.{valid?}
use Rattle.kernel_row.specs.Code.{all_valid?}
use Rattle.kernel_row.proofs.FirstInvalid.{all-valid-more}
use Rattle.kernel_row.proofs.Marks.{marked-or}
use Rattle.kernel_row.proofs.scan.any_exceeds.Goals as goal

pub loop-x-init : goal.loop-x-init
unfolding all_valid?
loop-x-init c = (omega arith, refl)

pub loop-x-preserved : goal.loop-x-preserved
loop-x-preserved c =
    let one = c.marks_of-marks.ensures ∙ ap (λ (p : Pixel). not (valid? p)) c.word.ensures.holds in
    (omega arith, marked-or c.loop-x.marks c.marks_of-marks.result ∙ all-valid-more _ c.loop-x.x _ _ c.loop-x.invariant.1 one)
