-- `kernel_composite::blend_row` meets its contract: the factors as weights, and one law that turns the blended bytes into pixels.
-- Assumes nothing.
use mathlib.Core.Path.{refl}
use Rattle.pixel.specs.declared.Operator.TheVariants.{Over, In, Out, Atop, Xor}
use Rattle.kernel_composite.proofs.BlendedIsComposited.{weights, weights-a, weights-b, fitting, blended-painted, scaled-blended}
use Rattle.kernel_composite.proofs.blend_row.Goals as goal

pub returns-in-Over : goal.returns-in-Over
returns-in-Over c =
    let a = c.args.a.now in
    let b = c.args.b.now in
    let told = c.in-Over.is in
    rw told (blended-painted Over a b (λ _. 255) _ _ (weights-b Over a b _ _ _ (rw told at c.requires.valid_row.2) (λ x y. refl) refl) _ _ c.lay.ensures)

pub returns-in-In : goal.returns-in-In
returns-in-In c =
    let a = c.args.a.now in
    let b = c.args.b.now in
    let told = c.in-In.is in
    rw told (blended-painted In a b _ (λ _. 0) _ (weights-a In a b _ _ _ (rw told at c.requires.valid_row.2) refl (λ x y. refl)) _ _ (scaled-blended a b _ _ _ _ c.scale.ensures))

pub returns-in-Out : goal.returns-in-Out
returns-in-Out c =
    let a = c.args.a.now in
    let b = c.args.b.now in
    let told = c.in-Out.is in
    rw told (blended-painted Out a b _ (λ _. 0) _ (weights-a Out a b _ _ _ (rw told at c.requires.valid_row.2) refl (λ x y. refl)) _ _ (scaled-blended a b _ _ _ _ c.scale-in-Out.ensures))

pub returns-in-Atop : goal.returns-in-Atop
returns-in-Atop c =
    let a = c.args.a.now in
    let b = c.args.b.now in
    let told = c.in-Atop.is in
    rw told (blended-painted Atop a b _ _ _ (weights Atop a b _ _ _ (rw told at c.requires.valid_row.2) refl refl) _ _ c.mix.ensures)

pub mix-requires-in-Xor-clause-fitting : goal.mix-requires-in-Xor-clause-fitting
mix-requires-in-Xor-clause-fitting c =
    let a = c.args.a.now in
    let b = c.args.b.now in
    let w = weights Xor a b _ _ _ (rw c.in-Xor.is at c.requires.valid_row.2) refl refl in
    fitting Xor a b _ _ _ w (λ i. (c.type_inv.a i).fits) (λ i. (c.type_inv.b i).fits) c.requires.valid_row.0 c.requires.valid_row.1

pub returns-in-Xor : goal.returns-in-Xor
returns-in-Xor c =
    let a = c.args.a.now in
    let b = c.args.b.now in
    let told = c.in-Xor.is in
    rw told (blended-painted Xor a b _ _ _ (weights Xor a b _ _ _ (rw told at c.requires.valid_row.2) refl refl) _ _ c.mix-in-Xor.ensures)
