-- `damage::resolve::resolve` meets its contract: the calls of the closure give the step's own values. Assumes nothing.
use Rattle.std.proofs.Common.{rules, ℕ, cond, ltb}
use Rattle.number.specs.declared.Fixed.{Fixed}
use Rattle.number.specs.Number.{judged, fixed_of}
use Rattle.filter.specs.declared.Numbers.{Numbers}
use Rattle.filter.specs.Kinds.{no_value}
use Rattle.filter.specs.Limits.{most_numbers}
use Rattle.filter.specs.Signature.{range_in}
use Rattle.filter.specs.Steps.{number_at, values_of}
use Rattle.damage.proofs.StepLaws.{made_listed}
use Rattle.damage.proofs.resolve.resolve.Goals as goal

pub returns : goal.returns
unfolding values_of
returns c =
    let value : Numbers → ℕ → ℕ → Fixed = λ numbers count i. cond (ltb i count) (fixed_of (judged (range_in numbers i) (number_at c.args.step i))) no_value in
    let made = made_listed _ _ (value c.signature_of.result.numbers c.number_count-count.result) (λ i y q h. search rules) no_value _ most_numbers c.from_fn-values.ensures.items in
    rw (c.shape_of-shape.ensures, made, c.number_count-count.ensures, c.signature_of.ensures)
