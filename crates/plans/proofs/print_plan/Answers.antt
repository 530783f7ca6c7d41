-- `plans::print_plan` meets its contract: an accepted canvas holds the rectangle. Assumes nothing.
use Rattle.std.proofs.Common.{◌≡◌, true, false, Ok, Err, is_ok, refl, sym, ◌∙◌}
use Rattle.std.specs.Result.{result_and}
use native.Mathlib.Omega.{arith}
use Rattle.filter.specs.Answers.{Answer, accepted?}
use Rattle.checks.proofs.Acceptance.{accepted-sizes, accepted-rectangle}
use Rattle.plans.proofs.print_plan.Goals as goal

both : (a b r : Answer) → r ≡ result_and a b → is_ok r ≡ true → (accepted? a ≡ true) × (accepted? b ≡ true)
unfolding accepted?
both (Ok u) (Ok v) r e h = (refl, refl)
both (Ok u) (Err y) r e h = absurd (let k : false ≡ true = rw e at h in cc)
both (Err x) b r e h = absurd (let k : false ≡ true = rw e at h in cc)

pub bounds-requires : goal.bounds-requires
bounds-requires g c =
    let a = c.check_canvas in
    let b = c.check_rectangle in
    let t = both a.result b.result c.and-early.result c.and-early.ensures (sym c.is_ok.ensures.value ∙ c.if-is_ok.true) in
    let g = accepted-rectangle c.args.w c.args.h c.args.changed (rw b.ensures at t.1) in
    (omega (arith, g.right, c.requires.0), omega (arith, g.bottom, c.requires.1))

pub print_steps-requires : goal.print_steps-requires
print_steps-requires g c =
    let a = c.check_canvas in
    let b = c.check_rectangle in
    let t = both a.result b.result c.and-early.result c.and-early.ensures (sym c.is_ok.ensures.value ∙ c.if-is_ok.true) in
    let g = accepted-rectangle c.args.w c.args.h c.args.changed (rw b.ensures at t.1) in
    let z = accepted-sizes c.args.w c.args.h c.args.count _ _ _ (rw a.ensures at t.0) in
    (z.canvas.wide, z.canvas.high, z.few, rw c.bounds.ensures record { right = omega (arith, g.right, z.canvas.wide); bottom = omega (arith, g.bottom, z.canvas.high) })
