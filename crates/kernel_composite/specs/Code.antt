-- Helpers of the kernel: no promise to a caller cites them. Assumes nothing.
use Rattle.std.specs.Prelude.{ℕ, ◌+◌, ◌*◌, ◌/◌, ◌≤◌, ◌<◌, List, get_or}
use Rattle.kernel_composite.specs.BytePairs.{pair_at}
use Rattle.kernel_composite.specs.Factors.{alpha_in}

-- the alpha of the pixel of which i is a byte
abbrev pub alpha_at : List ℕ → ℕ → ℕ
alpha_at d i = alpha_in d (i / 4)

-- a row of factors, read for each byte
abbrev pub row : List ℕ → ℕ → ℕ
row d i = pair_at d (i / 2)

-- a byte u weighted by f, and a byte v by g
abbrev pub weighted : ℕ → ℕ → ℕ → ℕ → ℕ
weighted u f v g = u * f + v * g

-- byte i of a weighted by f i, and that of b by g i
abbrev pub blended : List ℕ → (ℕ → ℕ) → List ℕ → (ℕ → ℕ) → ℕ → ℕ
blended a f b g i = (weighted (get_or a i 0) (f i) (get_or b i 0) (g i) + 127) / 255

-- the same by two rows of factors
abbrev pub blended_by : List ℕ → List ℕ → List ℕ → List ℕ → ℕ → ℕ
blended_by a f b g = blended a (row f) b (row g)

-- the factors are bytes, and the first n weighted sums are at most 255·255
pub record Fitting (a : List ℕ) (f : ℕ → ℕ) (b : List ℕ) (g : ℕ → ℕ) (n : ℕ) : Type 0 where
  pub small_f : (i : ℕ) → i < n → f i < 256
  pub small_g : (i : ℕ) → i < n → g i < 256
  pub fits : (i : ℕ) → i < n → weighted (get_or a i 0) (f i) (get_or b i 0) (g i) ≤ 65025
