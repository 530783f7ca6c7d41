-- `text_step::step_lines::step_inputs` meets its contract. The loop keeps what the fields so far say, in an array. Assumes nothing.
use mathlib.Core.Path.{refl, sym, ap, ◌∙◌}
use mathlib.Core.List.{[]}
use Prim.Native.Nat.{◌+◌}
use lib.ListN.{get_or, length-set}
use borrow.Author.Rules.{rules}
use Rattle.filter.specs.Steps.{no_input}
use Rattle.text_field.specs.Split.{split}
use Rattle.text_step.specs.StepLine.{input_of}
use Rattle.text_step.proofs.FieldsGathered.{filled-none, filled-more, filled-bad, filled-all, field_of, fields-long}
use Rattle.text_step.proofs.step_lines.step_inputs.Goals as goal

pub loop-i-init : goal.loop-i-init
loop-i-init c = (filled-none input_of 4 no_input _ _ (fields-long (λ j. get_or (split 9 c.args.line.now) (c.args.at + j) []) 0 c.args.n), refl)

pub returns-in_err-inputs : goal.returns-in_err-inputs
returns-in_err-inputs c =
    let e = field_of (λ j. get_or (split 9 c.args.line.now) (c.args.at + j) []) c.args.n c.loop-i.i (search rules) in
    let q = sym (ap input_of c.field.ensures) ∙ sym c.input_of.ensures ∙ c.in_err-inputs.was in
    c.from_residual.ensures ∙ filled-bad input_of 4 no_input _ _ _ _ c.loop-i.invariant.0 (search rules) (ap input_of e ∙ q)

pub loop-i-preserved : goal.loop-i-preserved
loop-i-preserved c =
    let e = field_of (λ j. get_or (split 9 c.args.line.now) (c.args.at + j) []) c.args.n c.loop-i.i (search rules) in
    let q = sym (ap input_of c.field.ensures) ∙ sym c.input_of.ensures ∙ c.in_ok-inputs.was in
    (filled-more input_of 4 no_input _ _ _ _ c.loop-i.invariant.0 (search rules) (search rules) (ap input_of e ∙ q), simp length-set c.loop-i.invariant.1)

pub returns : goal.returns
returns c = filled-all input_of 4 no_input _ _ _ _ c.loop-i.invariant.0 (search rules)
