-- What the code makes of a lane: sums that count in 16 bits, and what becomes of them. No promise to a caller cites this. Assumes nothing.
use Rattle.std.specs.Prelude.{ℕ, ◌+◌, ◌-◌, ◌*◌, ◌/◌, ◌%◌, min, ◌≡◌, List, get_or}
use Rattle.window.specs.Window.{fold}
use Rattle.kernel_lines.specs.Lines.{line_bytes}
use Rattle.kernel_taps.specs.declared.finish.Finish.{Finish}

-- n weights from `first` on over the bytes four by four from `at` on
unfoldable pub row_total : ℕ → List ℕ → ℕ → List ℕ → ℕ → ℕ
row_total n w first lines at = fold ◌+◌ 0 n (λ j. get_or w (first + j) 0 * get_or lines (at + 4 * j) 0)

-- n rows of n weights, five weights a row, over so many lines
unfoldable pub total : ℕ → List ℕ → List ℕ → ℕ → ℕ
total n w lines at = fold ◌+◌ 0 n (λ i. row_total n w (5 * i) lines (at + i * line_bytes))

unfoldable pub finished : Finish → ℕ → ℕ
finished f sum = min ((sum + f.base) % 65536 - f.lift) f.most / f.size

abbrev pub tapped : ℕ → List ℕ → Finish → List ℕ → ℕ → ℕ
tapped n w f lines at = finished f (total n w lines at)

-- how a sum is brought to a byte: down is what is below zero in the kernel
pub record FinishOf (down n : ℕ) (f : Finish) : Type 0 where
  pub base : f.base ≡ 255 * down + n / 2
  pub lift : f.lift ≡ 255 * down
  pub size : f.size ≡ n
