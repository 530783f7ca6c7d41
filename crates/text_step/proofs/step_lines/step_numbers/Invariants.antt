use mathlib.Core.Path.{◌≡◌}
use Prim.Native.Nat.{◌≤◌}
use lib.ListN.{length}
use Rattle.filter.specs.Limits.{most_numbers}
use Rattle.filter.specs.Steps.{no_number}
use Rattle.text_field.specs.Split.{split}
use Rattle.text_field.specs.Field.{numeral_of}
use Rattle.text_step.specs.Layout.{number_fields}
use Rattle.text_step.proofs.FieldsGathered.{Filled}
use Rattle.text_step.proofs.step_lines.step_numbers.Given as goal

abbrev pub invariant-loop-i : goal.invariant-loop-i
invariant-loop-i l =
    Filled numeral_of most_numbers no_number (number_fields l.kind (split 9 l.line)) l.n l.i l.numbers × (length l.numbers ≡ most_numbers) × (l.n ≤ most_numbers)
