-- A channel of a curve has at most 16 numbers, a kernel at most 25 values, and no kind more numbers than a step has room for. Assumes nothing.
use Prim.Native.Nat.{ℕ, ◌+◌, ◌≤◌, ◌<◌}
use mathlib.Core.Path.{◌≡◌, refl}
use mathlib.Core.Bool.{Bool, true, false, cond}
use native.Mathlib.Omega.{arith}
use lib.Dec.{ltb, leb}
use borrow.Author.Tests.{ltb-true, leb-true}
use native.Mathlib.Nat.{mul-le-mul}
use Rattle.pixel.specs.declared.Convolution.{Convolution}
use Rattle.pixel.specs.Convolve.{cells}
use Rattle.pixel.specs.declared.Transfer as T
use Rattle.pixel.specs.declared.Transfer.TheVariants.{Identity, Table, Discrete, Linear}
use Rattle.filter.specs.declared.Map.{Map}
use Rattle.filter.specs.declared.Pair.{Pair}
use Rattle.filter.specs.declared.Pass.{Pass}
use Rattle.filter.specs.declared.Kind.{Kind}
use Rattle.filter.specs.declared.Kind.TheVariants as K
use Rattle.filter.specs.Limits.{most_entries, most_numbers, most_order}
use Rattle.filter.specs.Curves.{entries?, entries_of, transfer_count}
use Rattle.filter.specs.Convolutions.{order?, orders?, target?, convolution?, values_in, convolution_count}
use Rattle.filter.specs.Signature.{number_count, map_numbers, pair_numbers, pass_numbers, numbers_of}
use Rattle.filter.proofs.Earlier.{both_true}

pub entries-few : (n : ℕ) → entries_of n ≤ most_entries
entries-few n = go (entries? n) refl
  where
    go : (b : Bool) → entries? n ≡ b → cond b n 0 ≤ most_entries
    go true e = leb-true n most_entries (both_true (ltb 0 n) (leb n most_entries) e).1
    go false e = omega arith

pub transfer-few : (t : T.Transfer) → transfer_count t ≤ most_entries
transfer-few Identity = omega arith
transfer-few (Table n) = entries-few n
transfer-few (Discrete n) = entries-few n
transfer-few Linear = omega arith

map-few : (m : Map) → number_count (map_numbers m) ≤ most_numbers
map-few Map.Matrix = omega arith
map-few Map.Saturate = omega arith
map-few Map.Luminance = omega arith
map-few (Map.Curve t) = omega (arith, transfer-few t.r, transfer-few t.g, transfer-few t.b, transfer-few t.a)

pair-few : (p : Pair) → number_count (pair_numbers p) ≤ most_numbers
pair-few (Pair.Operator o) = omega arith
pair-few Pair.Arithmetic = omega arith

pass-few : (p : Pass) → number_count (pass_numbers p) ≤ most_numbers
pass-few Pass.Blur = omega arith
pass-few Pass.Erode = omega arith
pass-few Pass.Dilate = omega arith

-- orders of 1 to 5
pub record Orders (k : Convolution) : Type 0 where
  pub some_columns : 0 < k.columns
  pub few_columns : k.columns ≤ most_order
  pub some_rows : 0 < k.rows
  pub few_rows : k.rows ≤ most_order

pub orders-allowed : (k : Convolution) → orders? k ≡ true → Orders k
orders-allowed k e =
    let c = both_true (order? k.columns) (order? k.rows) e in
    let a = both_true (ltb 0 k.columns) _ c.0 in
    let b = both_true (ltb 0 k.rows) _ c.1 in
    record { some_columns = ltb-true _ _ a.0; few_columns = leb-true _ _ a.1; some_rows = ltb-true _ _ b.0; few_rows = leb-true _ _ b.1 }

-- and the target inside
pub record Fits (k : Convolution) : Type 0 where
  pub orders : Orders k
  pub column : k.column < k.columns
  pub row : k.row < k.rows

pub kernel-fits : (k : Convolution) → convolution? k ≡ true → Fits k
kernel-fits k e =
    let a = both_true (orders? k) (target? k) e in
    let b = both_true (ltb k.column k.columns) (ltb k.row k.rows) a.1 in
    record { orders = orders-allowed k a.0; column = ltb-true _ _ b.0; row = ltb-true _ _ b.1 }

pub cells-few : (k : Convolution) → Orders k → cells k ≤ 25
cells-few k o = mul-le-mul o.few_columns o.few_rows

pub values-few : (k : Convolution) → values_in k ≤ 25
values-few k = go (orders? k) refl
  where
    go : (b : Bool) → orders? k ≡ b → cond b (cells k) 0 ≤ 25
    go true e = cells-few k (orders-allowed k e)
    go false e = omega arith

pub count-few : (k : Convolution) → convolution_count k ≤ 27
count-few k = go k.divided
  where
    go : (b : Bool) → values_in k + cond b 2 1 ≤ 27
    go true = omega (arith, values-few k)
    go false = omega (arith, values-few k)

pub numbers-few : (k : Kind) → numbers_of k ≤ most_numbers
numbers-few (K.Flood r g b) = omega arith
numbers-few K.Offset = omega arith
numbers-few (K.Pass p) = pass-few p
numbers-few (K.Map m) = map-few m
numbers-few (K.Pair p) = pair-few p
numbers-few (K.Merge n) = omega arith
numbers-few (K.Convolve k) = omega (arith, count-few k)
