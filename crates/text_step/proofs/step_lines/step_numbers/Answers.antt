-- `text_step::step_lines::step_numbers` meets its contract. The loop keeps what the fields so far say, in an array. Assumes nothing.
use mathlib.Core.Path.{refl, sym, ap, ◌∙◌}
use mathlib.Core.List.{List, []}
use Prim.Native.Nat.{ℕ}
use lib.ListN.{get_or, length-set}
use native.Mathlib.Omega.{arith}
use borrow.Author.Rules.{rules}
use Rattle.filter.specs.Limits.{most_numbers}
use Rattle.filter.specs.Signature.{numbers_of}
use Rattle.filter.specs.Steps.{no_number}
use Rattle.filter.proofs.FewNumbers.{numbers-few}
use Rattle.text_field.specs.Split.{split}
use Rattle.text_field.specs.Field.{numeral_of}
use Rattle.text_step.specs.Layout.{number_field}
use Rattle.text_step.proofs.FieldsGathered.{filled-none, filled-more, filled-bad, filled-all, field_of, fields-long}
use Rattle.text_step.proofs.step_lines.step_numbers.Goals as goal

pub loop-i-init : goal.loop-i-init
loop-i-init c =
    let k = c.args.kind in
    let e = c.requires.2 in
    (filled-none numeral_of most_numbers no_number _ _ (fields-long (λ j. get_or (split 9 c.args.line.now) (number_field k j) []) 0 (numbers_of k) ∙ sym e), refl, omega (arith, e, numbers-few k))

pub number_field-requires : goal.number_field-requires
number_field-requires c = (c.requires.0, c.requires.1, search rules)

pub returns-in_err-numbers : goal.returns-in_err-numbers
returns-in_err-numbers c =
    let f : ℕ → List ℕ = λ j. get_or (split 9 c.args.line.now) (number_field c.args.kind j) [] in
    let e = field_of f (numbers_of c.args.kind) c.loop-i.i (omega (arith, c.requires.2)) in
    let q = sym (ap numeral_of (c.field.ensures ∙ ap (λ (j : ℕ). get_or (split 9 c.args.line.now) j []) c.number_field.ensures.0)) ∙ sym c.numeral_of.ensures ∙ c.in_err-numbers.was in
    c.from_residual.ensures ∙ filled-bad numeral_of most_numbers no_number _ _ _ _ c.loop-i.invariant.0 (search rules) (ap numeral_of e ∙ q)

pub loop-i-preserved : goal.loop-i-preserved
loop-i-preserved c =
    let f : ℕ → List ℕ = λ j. get_or (split 9 c.args.line.now) (number_field c.args.kind j) [] in
    let e = field_of f (numbers_of c.args.kind) c.loop-i.i (omega (arith, c.requires.2)) in
    let q = sym (ap numeral_of (c.field.ensures ∙ ap (λ (j : ℕ). get_or (split 9 c.args.line.now) j []) c.number_field.ensures.0)) ∙ sym c.numeral_of.ensures ∙ c.in_ok-numbers.was in
    (filled-more numeral_of most_numbers no_number _ _ _ _ c.loop-i.invariant.0 (search rules) (search rules) (ap numeral_of e ∙ q), simp length-set c.loop-i.invariant.1, c.loop-i.invariant.2)

pub returns : goal.returns
returns c = filled-all numeral_of most_numbers no_number _ _ _ _ c.loop-i.invariant.0 (search rules)
