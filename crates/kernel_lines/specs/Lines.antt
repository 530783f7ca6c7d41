-- Lines: rows of a picture with the pixels that an edge mode puts before and behind them, one line after another in a buffer. Assumes nothing.
use Rattle.std.specs.Prelude.{ℕ, ◌+◌, ◌-◌, ◌*◌, ◌%◌, min, cond, List, ltb, leb, get_or}
use Rattle.window.specs.Limits.{longest_side}
use Rattle.pixel.specs.declared.Pixel.{Pixel}
use Rattle.pixel.specs.declared.Edge as G
use Rattle.pixel.specs.declared.Edge.TheVariants.{Duplicate, Wrap, None}
use Rattle.pixel.specs.Alpha.{clear}
use Rattle.pixel.specs.Bytes.{pixel_at}

-- a line has room for the longest row and four pixels more; there are five
abbrev pub line_bytes : ℕ
line_bytes = 4 * (longest_side + 4)

abbrev pub all_lines : ℕ
all_lines = 5 * line_bytes

-- the place i − t of a line of n places, by the edge mode; n, which is behind them all, where there is none
abbrev pub place_of : G.Edge → ℕ → ℕ → ℕ → ℕ
place_of Duplicate n t i = min (i - t) (n - 1)
place_of Wrap n t i = (i + t * (n - 1)) % n
place_of None n t i = cond (leb t i) (i - t) n

-- pixel p of a row of w pixels, transparent black behind them
abbrev pub pixel_in : List ℕ → ℕ → ℕ → Pixel
pixel_in row w p = cond (ltb p w) (pixel_at row (4 * p)) clear

-- byte b of line i
abbrev pub line_byte : List ℕ → ℕ → ℕ → ℕ
line_byte lines i b = get_or lines (i * line_bytes + b) 0
