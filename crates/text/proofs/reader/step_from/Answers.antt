-- `text::reader::step_from` meets its contract. Step n stands on line n of those after the canvas. Assumes nothing.
use mathlib.Core.Path.{ap, ◌∙◌}
use Prim.Native.Nat.{ℕ}
use Rattle.std.proofs.Common.{Option, unwrap_or}
use Rattle.filter.specs.declared.Step.{Step}
use Rattle.filter.specs.Steps.{blank_step}
use Rattle.text_field.proofs.SplitByIndex.{piece-le}
use Rattle.text.specs.Reading.{line_at}
use Rattle.text.proofs.Stepped.{step-inside, step_is}
use Rattle.text.proofs.reader.step_from.Goals as goal

pub find-e-requires : goal.find-e-requires
find-e-requires c = step-inside c.args.form c.args.text.now _ _ c.requires.0 (c.requires.2 ∙ ap (λ (k : ℕ). line_at c.args.text.now k c.args.n) c.requires.1)

pub slice_bounds-step_of-end : goal.slice_bounds-step_of-end
slice_bounds-step_of-end c =
    let i = step-inside c.args.form c.args.text.now _ _ c.requires.0 (c.requires.2 ∙ ap (λ (k : ℕ). line_at c.args.text.now k c.args.n) c.requires.1) in
    piece-le 10 _ _ _ i c.find-e.ensures

pub returns : goal.returns
returns c =
    c.unwrap_or.ensures
    ∙ ap (λ (d : Step). unwrap_or c.step_of.result d) c.blank.ensures
    ∙ ap (λ (o : Option Step). unwrap_or o blank_step) c.step_of.ensures
    ∙ step_is c.args.form c.args.text.now _ _ c.requires.0 (c.requires.2 ∙ ap (λ (k : ℕ). line_at c.args.text.now k c.args.n) c.requires.1) _ c.find-e.ensures
