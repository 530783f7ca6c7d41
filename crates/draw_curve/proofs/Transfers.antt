-- What the checks of a curve give to its kernels: counts of 1 to 16, values of at most 256, numbers that fit a step. Assumes nothing.
use Prim.Native.Nat.{ℕ, ◌≤◌}
use mathlib.Core.Path.{◌≡◌}
use mathlib.Core.Bool.{Bool, true, false, cond, ◌&&◌}
use mathlib.Core.List.{List}
use native.Mathlib.Omega.{arith}
use lib.Dec.{ltb, leb}
use borrow.Author.Tests.{ltb-true, leb-true}
use Rattle.number.specs.declared.Fixed.{Fixed}
use Rattle.number.specs.declared.Range.{Range}
use Rattle.number.specs.Number.{limit_of}
use Rattle.pixel.specs.declared.Transfer as T
use Rattle.pixel.specs.declared.Transfer.TheVariants.{Identity, Table, Discrete, Linear}
use Rattle.pixel.specs.declared.Transfers as Ts
use Rattle.kernel_curve.specs.Channel.{Counted, AllowedValues}
use Rattle.filter.specs.Limits.{most_entries, most_numbers}
use Rattle.filter.specs.Curves.{entries?, transfer?, transfers?, transfer_range}
use Rattle.filter.specs.Signature.{range_in, curve_numbers}
use Rattle.filter.specs.Accepted.{Ranged}
use Rattle.filter.proofs.Earlier.{both_true}
use Rattle.filter.proofs.FewNumbers.{transfer-few}

entries-counted : (n : ℕ) → entries? n ≡ true → (1 ≤ n) × (n ≤ 16)
entries-counted n e = let t = both_true (ltb 0 n) (leb n most_entries) e in (omega (arith, ltb-true 0 n t.0), leb-true n most_entries t.1)

transfer-counted : (t : T.Transfer) → transfer? t ≡ true → Counted t
unfolding Counted
transfer-counted Identity e = tt
transfer-counted (Table n) e = entries-counted n e
transfer-counted (Discrete n) e = entries-counted n e
transfer-counted Linear e = tt

pub record EachCounted (t : Ts.Transfers) : Type 0 where
  pub r : Counted t.r
  pub g : Counted t.g
  pub b : Counted t.b
  pub a : Counted t.a

pub transfers-counted : (t : Ts.Transfers) → transfers? t ≡ true → EachCounted t
transfers-counted t e =
    let first = both_true (transfer? t.r) (transfer? t.g && (transfer? t.b && transfer? t.a)) e in
    let second = both_true (transfer? t.g) (transfer? t.b && transfer? t.a) first.1 in
    let third = both_true (transfer? t.b) (transfer? t.a) second.1 in
    record {
      r = transfer-counted t.r first.0;
      g = transfer-counted t.g second.0;
      b = transfer-counted t.b third.0;
      a = transfer-counted t.a third.1;
    }

transfer-limit : (t : T.Transfer) → limit_of (transfer_range t) ≤ 256
transfer-limit Identity = omega arith
transfer-limit (Table n) = omega arith
transfer-limit (Discrete n) = omega arith
transfer-limit Linear = omega arith

either-limit : (b : Bool) (p q : Range) → limit_of p ≤ 256 → limit_of q ≤ 256 → limit_of (cond b p q) ≤ 256
either-limit true p q l m = l
either-limit false p q l m = m

curve-limit : (t : Ts.Transfers) (i : ℕ) → limit_of (range_in (curve_numbers t) i) ≤ 256
curve-limit t i =
    either-limit (ltb i (curve_numbers t).first.end) _ _ (transfer-limit t.r)
    (either-limit (ltb i (curve_numbers t).second.end) _ _ (transfer-limit t.g)
    (either-limit (ltb i (curve_numbers t).third.end) _ _ (transfer-limit t.b) (transfer-limit t.a)))

pub values-allowed : (t : Ts.Transfers) (v : List Fixed) → Ranged (curve_numbers t) v → AllowedValues v
values-allowed t v h = record {
  each = λ i l. record { above = omega (arith, h.above i l, curve-limit t i); below = omega (arith, h.below i l, curve-limit t i) };
}

-- where the channels' numbers begin
pub first-few : (t : Ts.Transfers) → (curve_numbers t).first.end ≤ most_numbers
first-few t = omega (arith, transfer-few t.r)

pub second-few : (t : Ts.Transfers) → (curve_numbers t).second.end ≤ most_numbers
second-few t = omega (arith, transfer-few t.r, transfer-few t.g)

pub third-few : (t : Ts.Transfers) → (curve_numbers t).third.end ≤ most_numbers
third-few t = omega (arith, transfer-few t.r, transfer-few t.g, transfer-few t.b)
