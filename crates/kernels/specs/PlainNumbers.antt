-- Operators, coefficients, extremes, spaces and convolutions as plain numbers. Assumes nothing.
use Rattle.std.specs.Prelude.{ℕ, zero, suc, ◌+◌, ◌*◌, Bool, cond, List, [], ◌∷◌, eqb, get_or}
use Rattle.number.specs.declared.Fixed.{Fixed}
use Rattle.pixel.specs.declared.Arithmetic.{Arithmetic}
use Rattle.pixel.specs.declared.Convolution.{Convolution}
use Rattle.pixel.specs.declared.Edge.TheVariants.{None}
use Rattle.pixel.specs.declared.Operator.{Operator}
use Rattle.pixel.specs.declared.Operator.TheVariants.{Over, In, Out, Atop, Xor}
use Rattle.pixel.specs.declared.Space.{Space}
use Rattle.pixel.specs.declared.Space.TheVariants.{Srgb, Linear}
use Rattle.kernel_fold.specs.declared.Extreme.{Extreme}
use Rattle.kernel_fold.specs.declared.Extreme.TheVariants.{Least, Largest}

-- over, in, out, atop, xor: 0 to 4
abbrev pub operator_at : ℕ → Operator
operator_at n = cond (eqb n 0) Over (cond (eqb n 1) In (cond (eqb n 2) Out (cond (eqb n 3) Atop Xor)))

-- dilate takes the largest, erode the least
abbrev pub extreme_of : Bool → Extreme
extreme_of largest = cond largest Largest Least

-- u units, not below zero
abbrev pub units : ℕ → Fixed
units u = record { above = u; below = 0 }

abbrev pub arithmetic : ℕ → ℕ → ℕ → ℕ → Arithmetic
arithmetic k1 k2 k3 k4 = record { k1 = units k1; k2 = units k2; k3 = units k3; k4 = units k4 }

-- the space that a conversion leads to
abbrev pub space_to : Bool → Space
space_to linear = cond linear Linear Srgb

-- a convolution, its fields one by one; its kernel does not look at the edge mode
abbrev pub convolution : ℕ → ℕ → Bool → ℕ → ℕ → Bool → Convolution
convolution columns rows divided column row preserve =
    record { columns = columns; rows = rows; divided = divided; column = column; row = row; preserve = preserve; edge = None }

-- number i: what is above zero and what is below it, in turn
abbrev pub pair_at : List ℕ → ℕ → Fixed
pair_at l i = record { above = get_or l (2 * i) 0; below = get_or l (2 * i + 1) 0 }

-- n numbers from number i on
abbrev pub pairs_from : List ℕ → ℕ → ℕ → List Fixed
pairs_from l i zero = []
pairs_from l i (suc n) = pair_at l i ∷ pairs_from l (suc i) n

-- the 64 numbers of a step
unfoldable pub paired_values : List ℕ → List Fixed
paired_values l = pairs_from l 0 64
