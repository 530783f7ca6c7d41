-- The orders, the target and the numbers of a convolution (RULES 5.14). Assumes nothing.
use Rattle.std.specs.Prelude.{ℕ, ◌+◌, Bool, cond, ◌&&◌, ltb, leb, Option, Some, None}
use Rattle.pixel.specs.declared.Convolution.{Convolution}
use Rattle.pixel.specs.Convolve.{cells}
use Rattle.filter.specs.Limits.{most_order}

-- "orders 1 to 5 each way"
abbrev pub order? : ℕ → Bool
order? n = ltb 0 n && leb n most_order

abbrev pub orders? : Convolution → Bool
orders? k = order? k.columns && order? k.rows

-- "the target lies inside the kernel"
abbrev pub target? : Convolution → Bool
target? k = ltb k.column k.columns && ltb k.row k.rows

abbrev pub convolution? : Convolution → Bool
convolution? k = orders? k && target? k

-- the kernel's values: where 17 refuses its orders, none is looked at
abbrev pub values_in : Convolution → ℕ
values_in k = cond (orders? k) (cells k) 0

-- they, the divisor if one is given, and the bias
abbrev pub convolution_count : Convolution → ℕ
convolution_count k = values_in k + cond k.divided 2 1

-- which number is the divisor; none where no divisor is given
abbrev pub divisor_place : Convolution → Option ℕ
divisor_place k = cond k.divided (Some (values_in k)) None
