-- `layers::draw_steps`: after n steps the first n layers are drawn, where the call is accepted. Assumes nothing.
use Rattle.layers.proofs.Progress.{Progress}
use Rattle.layers.proofs.draw_steps.Given as goal

abbrev pub invariant-loop-n : goal.invariant-loop-n
invariant-loop-n l = Progress l.sheet l.steps l.source l.fn.workspace l.fn.scratch l.call l.answer l.n l.workspace l.scratch l.so_far
