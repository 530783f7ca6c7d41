-- `kernel_composite::over_onto` meets its contract: the law of `blend_row`, with what dst holds as b. Assumes nothing.
use mathlib.Core.Path.{refl}
use borrow.Author.Rules.{rules}
use Rattle.pixel.specs.declared.Operator.TheVariants.{Over}
use Rattle.kernel_composite.proofs.FactorRows.{over-rows, rows-hold}
use Rattle.kernel_composite.proofs.BlendedIsComposited.{weights-b, fitting, blended-painted}
use Rattle.kernel_composite.proofs.over_onto.Goals as goal

pub lay_onto-requires-clause-fitting : goal.lay_onto-requires-clause-fitting
lay_onto-requires-clause-fitting c =
    let a = c.args.a.now in
    let b = c.args.dst.now in
    let w = weights-b Over a b a _ _ (rows-hold Over a b _ a _ a _ (over-rows a b _ a _ a _ c.inverse_alphas.ensures)) (λ x y. refl) refl in
    fitting Over a b (λ _. 255) _ _ w (λ i. (c.type_inv.a i).fits) (λ i. search rules) c.requires.valid_row.0 c.requires.valid_row.1

pub returns-clause-painted : goal.returns-clause-painted
returns-clause-painted c =
    let a = c.args.a.now in
    let b = c.args.dst.now in
    let w = weights-b Over a b a _ _ (rows-hold Over a b _ a _ a _ (over-rows a b _ a _ a _ c.inverse_alphas.ensures)) (λ x y. refl) refl in
    blended-painted Over a b (λ _. 255) _ _ w _ _ c.lay_onto.ensures
