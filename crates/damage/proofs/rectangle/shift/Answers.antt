-- `damage::rectangle::shift` meets its contract, bound by bound. Assumes nothing.
use Rattle.filter.proofs.PlacesInRects.{true-filled}
use native.Mathlib.Omega.{arith}
use mathlib.Core.Path.{sym, ◌∙◌}
use Rattle.damage.proofs.rectangle.shift.Goals as goal

pub slide-requires : goal.slide-requires
slide-requires c =
    let l = true-filled c.args.r (sym c.is_filled.ensures ∙ c.if-is_filled.true) in
    (omega (arith, l.right, c.requires.0.right), c.requires.1)

pub slide-requires-then-is_filled-2 : goal.slide-requires-then-is_filled-2
slide-requires-then-is_filled-2 c =
    let l = true-filled c.args.r (sym c.is_filled.ensures ∙ c.if-is_filled.true) in
    (omega (arith, l.bottom, c.requires.0.bottom), c.requires.2)
