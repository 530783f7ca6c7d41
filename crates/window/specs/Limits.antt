-- How large a picture can be. Assumes nothing.
use Rattle.std.specs.Prelude.{ℕ, ◌*◌}

-- W and H, at most (RULES 2.2)
abbrev pub longest_side : ℕ
longest_side = 1024

-- the bytes of such a row, and the pixels of the largest picture
abbrev pub longest_row : ℕ
longest_row = 4 * longest_side

abbrev pub most_pixels : ℕ
most_pixels = longest_side * longest_side
