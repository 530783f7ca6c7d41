-- `damage::resolve::units_at` meets its contract: the units lie within the range, accepted or not. Assumes nothing.
use Rattle.std.proofs.Common.{◌≡◌, ◌∙◌, refl, Result, Ok, Err}
use Rattle.std.specs.Result.{result_unwrap_or}
use Rattle.number.specs.declared.Fault.{Fault}
use Rattle.number.specs.declared.Fixed.{Fixed}
use Rattle.number.specs.Number.{judged, fixed_of}
use Rattle.filter.specs.Steps.{number_at}
use Rattle.filter.proofs.UnitsInRange.{fixed-in-range}
use Rattle.damage.proofs.resolve.units_at.Goals as goal

unwrapped : (j : Result Fixed Fault) → result_unwrap_or j (record { above = 0; below = 0 }) ≡ fixed_of j
unwrapped (Ok f) = refl
unwrapped (Err e) = refl

pub returns : goal.returns
returns c =
    let s = c.args in
    let u = fixed-in-range s.range (number_at s.step s.i) in
    let e : c.unwrap_or.result ≡ fixed_of (judged s.range (number_at s.step s.i)) =
    c.unwrap_or.ensures ∙ unwrapped c.judge.result ∙ rw (c.judge.ensures, c.number_at.ensures) in
    (e, rw e u.above_le, rw e u.below_le)
