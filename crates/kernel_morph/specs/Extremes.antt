-- Erode and dilate (RULES 5.5, 5.6): the smallest or largest over the window. Reads outside the lines give 0, "transparent black".
-- Assumes nothing.
use Rattle.std.specs.Prelude.{ℕ, List}
use Rattle.window.specs.Window.{over, column}
use Rattle.kernel_fold.specs.declared.Extreme.{Extreme}
use Rattle.kernel_fold.specs.declared.Extreme.TheVariants.{Least, Largest}
use Rattle.kernel_fold.specs.Operation.{operation}

-- the byte that every byte replaces
unfoldable pub neutral : Extreme → ℕ
neutral Least = 255
neutral Largest = 0

-- the smallest or largest over x - back .. x + ahead
abbrev pub extreme : Extreme → ℕ → ℕ → (ℕ → ℕ) → ℕ → ℕ
extreme op back ahead f x = over (operation op) (neutral op) back ahead f x

-- that of byte i of line v, over the count lines of n bytes at a in d
abbrev pub extreme_at : Extreme → ℕ → ℕ → List ℕ → ℕ → ℕ → ℕ → ℕ → ℕ → ℕ
extreme_at op back ahead d a n count v i = extreme op back ahead (column d a n count i) v
