use Rattle.text_field.proofs.DigitNumbers.{Counting}
use Rattle.text_field.proofs.wholes.digits.Given as goal

abbrev pub invariant-loop-x : goal.invariant-loop-x
invariant-loop-x l = Counting l.f l.base l.most l.x-index l.n
