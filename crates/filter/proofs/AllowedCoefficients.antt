-- Values in the ranges of a kind's numbers make coefficients that are allowed. Assumes nothing.
use Prim.Native.Nat.{ℕ, ◌<◌}
use mathlib.Core.Path.{◌≡◌, refl, ap}
use mathlib.Core.Bool.{Bool, true, false, cond}
use mathlib.Core.List.{List}
use native.Mathlib.Omega.{arith}
use lib.Dec.{ltb}
use Rattle.number.specs.declared.Fixed.{Fixed}
use Rattle.number.specs.declared.Range.{Range}
use Rattle.number.specs.declared.Range.TheVariants.{Coefficient}
use Rattle.number.specs.Number.{limit_of}
use Rattle.pixel.specs.Coefficient.{Allowed, AllowedArithmetic, AllowedMatrix}
use Rattle.filter.specs.declared.Map.TheVariants.{Matrix}
use Rattle.filter.specs.declared.Pair.TheVariants.{Arithmetic}
use Rattle.filter.specs.Signature.{alike, range_in, map_numbers, pair_numbers}
use Rattle.filter.specs.Kinds.{value_at, matrix_of, arithmetic_of}
use Rattle.filter.specs.Accepted.{Ranged}
use Rattle.filter.specs.Limits.{most_numbers}

-- numbers of one range have that range
pub alike-range : (n : ℕ) (r : Range) (i : ℕ) → range_in (alike n r) i ≡ r
alike-range n r i = go (ltb i n)
  where
    go : (b : Bool) → cond b r (cond b r (cond b r r)) ≡ r
    go true = refl
    go false = refl

module _ (n : ℕ) (v : List Fixed) (h : Ranged (alike n Coefficient) v) where
  at : (i : ℕ) → i < most_numbers → Allowed (value_at v i)
  at i l =
      let e : limit_of (range_in (alike n Coefficient) i) ≡ 256 = ap limit_of (alike-range n Coefficient i) in
      record { above = omega (arith, h.above i l); below = omega (arith, h.below i l) }

pub matrix-allowed : (v : List Fixed) → Ranged (map_numbers Matrix) v → AllowedMatrix (matrix_of v)
matrix-allowed v h = record {
  r = record { r = at 20 v h 0 (omega arith); g = at 20 v h 1 (omega arith); b = at 20 v h 2 (omega arith); a = at 20 v h 3 (omega arith); one = at 20 v h 4 (omega arith) };
  g = record { r = at 20 v h 5 (omega arith); g = at 20 v h 6 (omega arith); b = at 20 v h 7 (omega arith); a = at 20 v h 8 (omega arith); one = at 20 v h 9 (omega arith) };
  b = record { r = at 20 v h 10 (omega arith); g = at 20 v h 11 (omega arith); b = at 20 v h 12 (omega arith); a = at 20 v h 13 (omega arith); one = at 20 v h 14 (omega arith) };
  a = record { r = at 20 v h 15 (omega arith); g = at 20 v h 16 (omega arith); b = at 20 v h 17 (omega arith); a = at 20 v h 18 (omega arith); one = at 20 v h 19 (omega arith) };
}

pub arithmetic-allowed : (v : List Fixed) → Ranged (pair_numbers Arithmetic) v → AllowedArithmetic (arithmetic_of v)
arithmetic-allowed v h = record { k1 = at 4 v h 0 (omega arith); k2 = at 4 v h 1 (omega arith); k3 = at 4 v h 2 (omega arith); k4 = at 4 v h 3 (omega arith) }
