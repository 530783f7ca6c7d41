-- What the code's own steps work out. No promise to a caller cites these. Assumes nothing.
use Rattle.std.specs.Prelude.{ℕ, ◌+◌, ◌/◌, ◌%◌, cond, eqb}
use Rattle.number.specs.Number.{value}
use Rattle.pixel.specs.declared.Pixel.{Pixel}
use Rattle.pixel.specs.declared.MatrixRow.{MatrixRow}
use Rattle.pixel.specs.declared.Matrix.{Matrix}
use Rattle.pixel.specs.Alpha.{pixel}
use Rattle.pixel.specs.Matrix.{matrix_channel, by_row}
use Rattle.kernel_matrix.specs.Tables.{matrix_row_at, biased}

-- the entries of a matrix's table, one after another
abbrev pub product : Matrix → ℕ → ℕ
product m i =
    cond (eqb (i / 1024) 0) (biased (matrix_row_at m (i % 4)).r (i / 4 % 256))
    (cond (eqb (i / 1024) 1) (biased (matrix_row_at m (i % 4)).g (i / 4 % 256))
    (cond (eqb (i / 1024) 2) (biased (matrix_row_at m (i % 4)).b (i / 4 % 256))
    (biased (matrix_row_at m (i % 4)).a (i / 4 % 256) + biased (matrix_row_at m (i % 4)).one 255 + 32768)))

-- a row of the matrix on unpremultiplied channels
abbrev pub channel_by : MatrixRow → ℕ → ℕ → ℕ → ℕ → ℕ
channel_by w r g b a = matrix_channel (value w.r) (value w.g) (value w.b) (value w.a) (value w.one) r g b a

-- the four rows on a pixel, not yet premultiplied
unfoldable pub by_rows : Matrix → Pixel → Pixel
by_rows m p = pixel (by_row m.r p) (by_row m.g p) (by_row m.b p) (by_row m.a p)
