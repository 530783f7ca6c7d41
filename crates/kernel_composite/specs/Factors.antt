-- The rows of factors by which a composite is worked: FA and FB of each pixel. Assumes nothing.
use Rattle.std.specs.Prelude.{ℕ, ◌+◌, ◌*◌, ◌/◌, ◌<◌, ◌≡◌, Bool, true, false, List, get_or}
use Rattle.pixel.specs.declared.Pixel.{Pixel}
use Rattle.pixel.specs.declared.Operator.{Operator}
use Rattle.pixel.specs.declared.Operator.TheVariants.{Over, In, Out, Atop, Xor}
use Rattle.pixel.specs.Alpha.{pixel}
use Rattle.pixel.specs.Bytes.{Painted}
use Rattle.pixel.specs.Composite.{factor_a, factor_b}
use Rattle.kernel_composite.specs.BytePairs.{pair_at}

-- the alpha of pixel x of a row
abbrev pub alpha_in : List ℕ → ℕ → ℕ
alpha_in d x = get_or d (4 * x + 3) 0

-- a factor as it stands in a row of factors: a number of 16 bits for every two channels
abbrev pub twice : ℕ → Pixel
twice v = pixel v 0 v 0

-- whether FA is more than the constant 255, and FB more than the constant 0
abbrev pub varies_a : Operator → Bool
varies_a Over = false
varies_a In = true
varies_a Out = true
varies_a Atop = true
varies_a Xor = true

abbrev pub varies_b : Operator → Bool
varies_b Over = true
varies_b In = false
varies_b Out = false
varies_b Atop = true
varies_b Xor = true

-- f and g hold the factors that vary, for the n pixels of the rows a and b
pub record Factors (o : Operator) (a b f g : List ℕ) (n : ℕ) : Type 0 where
  pub of_a : varies_a o ≡ true → (j : ℕ) → j < 2 * n → pair_at f j ≡ factor_a o (alpha_in a (j / 2)) (alpha_in b (j / 2))
  pub of_b : varies_b o ≡ true → (j : ℕ) → j < 2 * n → pair_at g j ≡ factor_b o (alpha_in a (j / 2)) (alpha_in b (j / 2))

-- f' is f with the factor φ x stored for each of n pixels, where it varies; else f' is f
unfoldable pub FactorRow : Bool → (ℕ → ℕ) → ℕ → List ℕ → List ℕ → Type 0
FactorRow true φ n f f' = Painted (λ x. twice (φ x)) 0 0 n f f'
FactorRow false φ n f f' = f' ≡ f

-- f' is f with FA of the n pixels of the rows a and b, and g' is g with FB
pub record FactorRows (o : Operator) (a b : List ℕ) (n : ℕ) (f g f' g' : List ℕ) : Type 0 where
  pub of_a : FactorRow (varies_a o) (λ x. factor_a o (alpha_in a x) (alpha_in b x)) n f f'
  pub of_b : FactorRow (varies_b o) (λ x. factor_b o (alpha_in a x) (alpha_in b x)) n g g'
