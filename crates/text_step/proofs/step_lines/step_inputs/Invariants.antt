use mathlib.Core.Path.{◌≡◌}
use lib.ListN.{length}
use Rattle.filter.specs.Steps.{no_input}
use Rattle.text_field.specs.Split.{split}
use Rattle.text_step.specs.Layout.{fields_from}
use Rattle.text_step.specs.StepLine.{input_of}
use Rattle.text_step.proofs.FieldsGathered.{Filled}
use Rattle.text_step.proofs.step_lines.step_inputs.Given as goal

abbrev pub invariant-loop-i : goal.invariant-loop-i
invariant-loop-i l = Filled input_of 4 no_input (fields_from l.at l.n (split 9 l.line)) l.n l.i l.inputs × (length l.inputs ≡ 4)
