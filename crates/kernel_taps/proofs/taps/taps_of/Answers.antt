-- `kernel_taps::taps::taps_of` meets its contract: one weight more in each turn. Assumes nothing.
use Rattle.std.proofs.Common.{ℕ, ◌+◌, ◌-◌, ◌/◌, ◌%◌, ◌≡◌, refl, ◌∙◌, ap, arith}
use Rattle.window.specs.Window.{fold}
use Rattle.number.specs.declared.Fixed.{Fixed}
use Rattle.kernel_sums.proofs.SlidingSums.{fold_more}
use Rattle.kernel_taps.specs.Taps.{exchanged, tap_at, Whole, Tap}
use Rattle.kernel_taps.proofs.WholeTaps.{taps-more}
use Rattle.kernel_taps.proofs.taps.taps_of.Goals as goal

pub loop-t-init : goal.loop-t-init
unfolding fold
loop-t-init c = record { each = λ s l. absurd (omega arith); lifted = refl; all = refl; lift_le_most = omega arith; small = omega arith }

pub loop-t-preserved : goal.loop-t-preserved
loop-t-preserved c =
    let a = c.args in
    let L = c.loop-t in
    let at : ℕ → Fixed = tap_at a.kernel.now.convolution a.kernel.now.values a.negative in
    let u = c.exchange-u.result in
    let is : u ≡ at L.t = c.exchange-u.ensures ∙ ap (exchanged a.negative) c.turned_at.ensures in
    let up = c.in_ok-above.ensures in
    let down = c.in_ok-below.ensures in
    let x : ℕ = (c.in_ok-above.above + (65536 - c.in_ok-below.below)) % 65536 in
    let whole : Whole a.unit u = record { above = up.0; below = down.0; few_above = omega (arith, up.1, up.2); few_below = omega (arith, down.1, down.2) } in
    let tap : Tap a.unit x u = record { whole = whole; wraps = omega (arith, up.1, up.2, down.1, down.2) } in
    let upper : u.above / a.unit ≡ (at L.t).above / a.unit = ap (λ (v : Fixed). v.above / a.unit) is in
    let lower : u.below / a.unit ≡ (at L.t).below / a.unit = ap (λ (v : Fixed). v.below / a.unit) is in
    record {
      each = taps-more a.unit L.t x at L.weight-items (omega arith) (rw is at tap) L.invariant.each;
      lifted = omega (arith, L.invariant.lifted, lower, down.1, c.from-lift.ensures, fold_more (λ (s : ℕ). (at s).below / a.unit) L.t);
      all = omega (
        arith,
        L.invariant.all,
        upper,
        lower,
        up.1,
        down.1,
        c.from.ensures,
        c.from-in-loop-t.ensures,
        fold_more (λ (s : ℕ). (at s).above / a.unit + (at s).below / a.unit) L.t,
      );
      lift_le_most = omega (arith, L.invariant.lift_le_most, c.from-lift.ensures, c.from-in-loop-t.ensures);
      small = omega (arith, L.invariant.small, up.2, down.2, c.from.ensures, c.from-in-loop-t.ensures);
    }

pub returns-clause-taps_of : goal.returns-clause-taps_of
returns-clause-taps_of c =
    let L = c.loop-t in
    let all : L.t ≡ 25 = omega arith in
    record { each = rw all at L.invariant.each; lifted = rw all at L.invariant.lifted; all = rw all at L.invariant.all }
