-- The limits of a sheet and of its text, each stated once; the code's are the constants of `filter::Sheet`. Assumes nothing.
use Rattle.std.specs.Prelude.{ℕ, ◌*◌}
pub use Rattle.window.specs.Limits.{longest_side, longest_row, most_pixels}

-- the steps of a sheet, at most (RULES 2.3)
abbrev pub most_steps : ℕ
most_steps = 64

-- the entries of a table, at most (RULES 5.13), and the numbers that a step has room for, four such tables
abbrev pub most_entries : ℕ
most_entries = 16

abbrev pub most_numbers : ℕ
most_numbers = 64

-- the columns and the rows of a kernel, at most (RULES 5.14)
abbrev pub most_order : ℕ
most_order = 5

-- a side of a text's canvas, at most, and the bytes of such a picture (RULES 9.2)
abbrev pub longest_text_side : ℕ
longest_text_side = 16

abbrev pub text_picture : ℕ
text_picture = 4 * (longest_text_side * longest_text_side)

-- the bytes of a text, at most (RULES 9.6)
abbrev pub longest_text : ℕ
longest_text = 65536
