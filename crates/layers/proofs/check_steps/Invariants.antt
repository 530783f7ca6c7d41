-- `layers::check_steps`: after n steps the answer is that of the first n. Assumes nothing.
use Rattle.layers.proofs.AnswerSoFar.{Answered}
use Rattle.layers.proofs.check_steps.Given as goal

abbrev pub invariant-loop-n : goal.invariant-loop-n
invariant-loop-n l = Answered l.width l.height l.steps l.n l.answer
