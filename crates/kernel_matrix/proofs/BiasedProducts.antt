-- The table of a colour matrix: its biased products, and their sum as a channel. Assumes nothing.
use mathlib.Core.Path.{◌≡◌, ap, ◌∙◌}
use mathlib.Core.Bool.{Bool, true, false, cond}
use mathlib.Core.List.{List}
use Prim.Native.Nat.{ℕ, ◌+◌, ◌-◌, ◌*◌, ◌/◌, ◌%◌, ◌≤◌, ◌<◌, min}
use native.Mathlib.Nat.{mul-le-mul, add-mul-mod_self_right, mod-eq_of_lt}
use native.Mathlib.Omega.{arith}
use lib.Dec.{eqb}
use lib.ListN.{length, get_or}
use Rattle.window.specs.Store.{Filled}
use Rattle.number.specs.Number.{value}
use Rattle.number.specs.declared.Fixed.{Fixed}
use Rattle.pixel.specs.declared.MatrixRow.{MatrixRow}
use Rattle.pixel.specs.declared.Matrix.{Matrix}
use Rattle.pixel.specs.Matrix.{matrix_channel}
use Rattle.pixel.proofs.ByMatrix.{matrix-natural}
use Rattle.pixel.specs.Coefficient.{Allowed, AllowedRow, AllowedMatrix}
use Rattle.kernel_matrix.specs.Tables.{biased, matrix_row_at, MatrixTable}
use Rattle.kernel_matrix.specs.Code.{product}

-- a coefficient times a byte
pub product_le : (u x : ℕ) → u ≤ 16777216 → x < 256 → u * x ≤ 4278190080
product_le u x h l = let k : x ≤ 255 = omega arith in mul-le-mul h k

pub biased-le : (u : Fixed) (x : ℕ) → Allowed u → x < 256 → biased u x ≤ 8556380160
biased-le u x s l = omega (arith, product_le u.above x s.above l)

-- nothing is cut off
biased-is : (u : Fixed) (x : ℕ) → Allowed u → x < 256 → biased u x + u.below * x ≡ u.above * x + 4278190080
biased-is u x s l = omega (arith, product_le u.below x s.below l)

-- the five biases are 326,400 · 65,536
biases : (p q s t v u1 u2 u3 u4 u5 d1 d2 d3 d4 d5 : ℕ)
    → p + d1 ≡ u1 + 4278190080 → q + d2 ≡ u2 + 4278190080 → s + d3 ≡ u3 + 4278190080 → t + d4 ≡ u4 + 4278190080 → v + d5 * 255 ≡ u5 * 255 + 4278190080
    → p + q + s + (t + v + 32768) - 21390950400 ≡ u1 + u2 + u3 + u4 + 255 * u5 + 32768 - (d1 + d2 + d3 + d4 + 255 * d5)
biases p q s t v u1 u2 u3 u4 u5 d1 d2 d3 d4 d5 e1 e2 e3 e4 e5 = omega arith

pub biased-law : (u : MatrixRow) (r g b a : ℕ) → AllowedRow u → r < 256 → g < 256 → b < 256 → a < 256
    → min ((biased u.r r + biased u.g g + biased u.b b + (biased u.a a + biased u.one 255 + 32768) - 21390950400) / 65536) 255
    ≡ matrix_channel (value u.r) (value u.g) (value u.b) (value u.a) (value u.one) r g b a
biased-law u r g b a s lr lg lb la =
    ap (λ (n : ℕ). min (n / 65536) 255)
    (biases (biased u.r r) (biased u.g g) (biased u.b b) (biased u.a a) (biased u.one 255)
    (u.r.above * r) (u.g.above * g) (u.b.above * b) (u.a.above * a) u.one.above
    (u.r.below * r) (u.g.below * g) (u.b.below * b) (u.a.below * a) u.one.below
    (biased-is u.r r s.r lr) (biased-is u.g g s.g lg) (biased-is u.b b s.b lb) (biased-is u.a a s.a la) (biased-is u.one 255 s.one (omega arith)))
    ∙ matrix-natural u.r.above u.r.below u.g.above u.g.below u.b.above u.b.below u.a.above u.a.below u.one.above u.one.below r g b a

-- the byte and the row of an entry
row_at : (x c k : ℕ) → c < 4 → (4 * x + k * 1024 + c) % 4 ≡ c
row_at x c k lc = omega arith

byte_at : (x c k : ℕ) → x < 256 → c < 4 → (4 * x + k * 1024 + c) / 4 % 256 ≡ x
byte_at x c k lx lc =
    let e : (4 * x + k * 1024 + c) / 4 ≡ x + k * 256 = omega arith in
    rw (e, add-mul-mod_self_right x k 256) (mod-eq_of_lt lx)

-- the entries one after another are the record's
pub matrix-table-of : (m : Matrix) (d d' : List ℕ) → length d ≡ 4096 → Filled (product m) 0 4096 d d' → MatrixTable m d'
matrix-table-of m d d' long F = record {
  long = F.long ∙ long;
  red = λ x c lx lc.
      let z : 4 * x + 0 * 1024 + c ≡ 4 * x + c = omega arith in
      let k : (4 * x + c) / 1024 ≡ 0 = omega arith in
      F.inside (4 * x + c) (omega arith) (omega arith) ∙ simp (k, rw z at (row_at x c 0 lc), rw z at (byte_at x c 0 lx lc));
  green = λ x c lx lc.
      let k : (4 * x + 1024 + c) / 1024 ≡ 1 = omega arith in
      F.inside (4 * x + 1024 + c) (omega arith) (omega arith) ∙ simp (k, row_at x c 1 lc, byte_at x c 1 lx lc);
  blue = λ x c lx lc.
      let k : (4 * x + 2048 + c) / 1024 ≡ 2 = omega arith in
      F.inside (4 * x + 2048 + c) (omega arith) (omega arith) ∙ simp (k, row_at x c 2 lc, byte_at x c 2 lx lc);
  alpha = λ x c lx lc.
      let k : (4 * x + 3072 + c) / 1024 ≡ 3 = omega arith in
      F.inside (4 * x + 3072 + c) (omega arith) (omega arith) ∙ simp (k, row_at x c 3 lc, byte_at x c 3 lx lc);
}

allowed_at : (m : Matrix) (c : ℕ) → AllowedMatrix m → AllowedRow (matrix_row_at m c)
allowed_at m c s = go (eqb c 0) (eqb c 1) (eqb c 2)
  where
    go : (x y z : Bool) → AllowedRow (cond x m.r (cond y m.g (cond z m.b m.a)))
    go true y z = s.r
    go false true z = s.g
    go false false true = s.b
    go false false false = s.a

-- the sum of a pixel's four entries in row c
module _ (m : Matrix) (t : List ℕ) (c r g b a : ℕ) (M : MatrixTable m t) (s : AllowedMatrix m) (lc : c < 4) (lr : r < 256) (lg : g < 256) (lb : b < 256) (la : a < 256) where
  red-le : get_or t (4 * r + c) 0 ≤ 8556380160
  red-le = rw (M.red r c lr lc) (biased-le _ r (allowed_at m c s).r lr)

  green-le : get_or t (4 * g + 1024 + c) 0 ≤ 8556380160
  green-le = rw (M.green g c lg lc) (biased-le _ g (allowed_at m c s).g lg)

  blue-le : get_or t (4 * b + 2048 + c) 0 ≤ 8556380160
  blue-le = rw (M.blue b c lb lc) (biased-le _ b (allowed_at m c s).b lb)

  alpha-le : get_or t (4 * a + 3072 + c) 0 ≤ 17112793088
  alpha-le =
      let x = biased-le (matrix_row_at m c).a a (allowed_at m c s).a la in
      let y = biased-le (matrix_row_at m c).one 255 (allowed_at m c s).one (omega arith) in
      rw (M.alpha a c la lc) (sum-le _ _ x y)
    where
      sum-le : (x y : ℕ) → x ≤ 8556380160 → y ≤ 8556380160 → x + y + 32768 ≤ 17112793088
      sum-le x y h k = omega arith

  pub entries-le : (get_or t (4 * r + c) 0 ≤ 8556380160) × (get_or t (4 * g + 1024 + c) 0 ≤ 8556380160) × (get_or t (4 * b + 2048 + c) 0 ≤ 8556380160)
      × (get_or t (4 * a + 3072 + c) 0 ≤ 17112793088)
  entries-le = (red-le, green-le, blue-le, alpha-le)

  pub sum-law : min ((get_or t (4 * r + c) 0 + get_or t (4 * g + 1024 + c) 0 + get_or t (4 * b + 2048 + c) 0 + get_or t (4 * a + 3072 + c) 0 - 21390950400) / 65536) 255
      ≡ matrix_channel (value (matrix_row_at m c).r) (value (matrix_row_at m c).g) (value (matrix_row_at m c).b) (value (matrix_row_at m c).a) (value (matrix_row_at m c).one) r g b a
  sum-law = rw (M.red r c lr lc, M.green g c lg lc, M.blue b c lb lc, M.alpha a c la lc) (biased-law (matrix_row_at m c) r g b a (allowed_at m c s) lr lg lb la)
