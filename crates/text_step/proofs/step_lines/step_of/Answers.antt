-- `text_step::step_lines::step_of` meets its contract. By the kind that the line names. Assumes nothing.
use mathlib.Core.Path.{sym, ◌∙◌}
use Rattle.text_step.proofs.KindsGiven.{kind-given, step-unformed, step-formed}
use Rattle.text_step.proofs.step_lines.step_of.Goals as goal

pub returns-in_err-kind_in : goal.returns-in_err-kind_in
returns-in_err-kind_in c = c.from_residual.ensures ∙ step-unformed _ (sym c.kind_in.ensures ∙ c.in_err-kind_in.was)

pub step_as-requires : goal.step_as-requires
step_as-requires c = record { count = c.count-n.ensures; given = (kind-given _ (sym c.kind_in.ensures ∙ c.in_ok-kind_in.was)).1 }

pub returns : goal.returns
returns c = step-formed _ (sym c.kind_in.ensures ∙ c.in_ok-kind_in.was) c.step_as.ensures
