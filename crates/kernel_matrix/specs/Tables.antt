-- What the table holds that a matrix is turned into before its rows are worked. Assumes nothing.
use Rattle.std.specs.Prelude.{ℕ, ◌+◌, ◌-◌, ◌*◌, ◌<◌, ◌≡◌, cond, List, eqb, length, get_or}
use Rattle.number.specs.declared.Fixed.{Fixed}
use Rattle.pixel.specs.declared.MatrixRow.{MatrixRow}
use Rattle.pixel.specs.declared.Matrix.{Matrix}

-- the matrix's row for R, G, B or A: 0, 1, 2, 3
abbrev pub matrix_row_at : Matrix → ℕ → MatrixRow
matrix_row_at m c = cond (eqb c 0) m.r (cond (eqb c 1) m.g (cond (eqb c 2) m.b m.a))

-- u·x and 255 · 256 in units, which keeps it from falling below zero
abbrev pub biased : Fixed → ℕ → ℕ
biased u x = u.above * x + 4278190080 - u.below * x

-- the products of a byte x of R, G, B and A with its weight in each row c; with A's the row's constant and what rounds
pub record MatrixTable (m : Matrix) (table : List ℕ) : Type 0 where
  pub long : length table ≡ 4096
  pub red : (x c : ℕ) → x < 256 → c < 4 → get_or table (4 * x + c) 0 ≡ biased (matrix_row_at m c).r x
  pub green : (x c : ℕ) → x < 256 → c < 4 → get_or table (4 * x + 1024 + c) 0 ≡ biased (matrix_row_at m c).g x
  pub blue : (x c : ℕ) → x < 256 → c < 4 → get_or table (4 * x + 2048 + c) 0 ≡ biased (matrix_row_at m c).b x
  pub alpha : (x c : ℕ) → x < 256 → c < 4 → get_or table (4 * x + 3072 + c) 0 ≡ biased (matrix_row_at m c).a x + biased (matrix_row_at m c).one 255 + 32768
