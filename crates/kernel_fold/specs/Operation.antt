-- The smaller or the larger of two bytes (erode, dilate), and bytes of one buffer put together so. Assumes nothing.
use Rattle.std.specs.Prelude.{ℕ, ◌+◌, min, max, List, get_or, fold}
use Rattle.kernel_fold.specs.declared.Extreme.{Extreme}
use Rattle.kernel_fold.specs.declared.Extreme.TheVariants.{Least, Largest}

-- the smaller or the larger of two
unfoldable pub operation : Extreme → ℕ → ℕ → ℕ
operation Least = min
operation Largest = max

-- the bytes that stand i after the places, put together from the first on
abbrev pub together : (ℕ → ℕ → ℕ) → List ℕ → ℕ → List ℕ → ℕ → ℕ
together op d first others i = fold (λ x w. op x (get_or d (w + i) 0)) (get_or d (first + i) 0) others
