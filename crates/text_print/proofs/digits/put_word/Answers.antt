-- `text_print::digits::put_word` meets its contract: the part of the buffer is the word. Assumes nothing.
use Rattle.std.proofs.Common.{◌≡◌, ◌+◌, ◌-◌, length, take, drop, refl, arith, length-drop, length-take-le, ext_get_or, ◌∙◌}
use lib.Seq.{drop-drop}
use Rattle.text_step.specs.ManyFields.{stored}
use Rattle.text_print.proofs.digits.put_word.Goals as goal

pub returns : goal.returns
unfolding stored
returns c =
    let a = c.args in
    let L = c.loop-i in
    let n = length a.word.now in
    let k : a.at + n - a.at ≡ n = omega arith in
    let part : length (take (a.at + n - a.at) (drop a.at a.out.now)) ≡ n = length-take-le _ (drop a.at a.out.now) (simp length-drop (omega arith)) ∙ k in
    let is_word : L.x-items ≡ a.word.now = ext_get_or 0 L.x-items a.word.now (L.auto.x-items ∙ part) (λ j h. L.invariant j (omega arith)) in
    record { is = rw (is_word, k, drop-drop n a.at a.out.now); ends = refl }
