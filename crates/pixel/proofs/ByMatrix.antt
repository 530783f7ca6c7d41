-- The colour matrix: a channel worked out by naturals alone; valid, and four bytes, whatever the matrix. Assumes nothing.
use Prim.Native.Nat.{ℕ, ◌+◌, ◌-◌, ◌*◌, ◌/◌, ◌<◌, min}
use mathlib.Core.Path.{◌≡◌, sym}
use native.Mathlib.Nat.{lt_of_le_of_lt}
use lib.IntN.{ℤ, pos, sub_ℕ, ◌+ℤ◌, ◌*ℤ◌}
use Rattle.pixel.specs.declared.Pixel.{Pixel}
use Rattle.pixel.specs.declared.MatrixRow.{MatrixRow}
use Rattle.pixel.specs.declared.Matrix as M
use Rattle.pixel.specs.Alpha.{Valid, Bytes}
use Rattle.pixel.specs.Whole.{◌÷◌}
use Rattle.pixel.specs.Matrix.{matrix_channel, by_row, by_matrix}
use Rattle.pixel.proofs.SignedSums.{diff-sub, diff-add, diff-mul, diff-by, diff-plus, diff-limited, limited-byte}
use Rattle.pixel.proofs.Premultiplied.{premultiplied-le}

-- u: what is above zero; d: what is below it
pub matrix-natural : (u1 d1 u2 d2 u3 d3 u4 d4 u5 d5 r g b a : ℕ)
    → min ((u1 * r + u2 * g + u3 * b + u4 * a + 255 * u5 + 32768 - (d1 * r + d2 * g + d3 * b + d4 * a + 255 * d5)) / 65536) 255
    ≡ matrix_channel (sub_ℕ u1 d1) (sub_ℕ u2 d2) (sub_ℕ u3 d3) (sub_ℕ u4 d4) (sub_ℕ u5 d5) r g b a
unfolding matrix_channel
matrix-natural u1 d1 u2 d2 u3 d3 u4 d4 u5 d5 r g b a =
    let colours = diff-add (diff-add (diff-mul r (diff-sub u1 d1)) (diff-mul g (diff-sub u2 d2))) (diff-mul b (diff-sub u3 d3)) in
    sym (diff-limited 65536 (diff-plus 32768 (diff-add (diff-add colours (diff-mul a (diff-sub u4 d4))) (diff-by 255 (diff-sub u5 d5)))))

pub matrix-byte : (m1 m2 m3 m4 m5 : ℤ) (r g b a : ℕ) → matrix_channel m1 m2 m3 m4 m5 r g b a < 256
unfolding matrix_channel
matrix-byte m1 m2 m3 m4 m5 r g b a =
    limited-byte ((m1 *ℤ pos r +ℤ m2 *ℤ pos g +ℤ m3 *ℤ pos b +ℤ m4 *ℤ pos a +ℤ pos 255 *ℤ m5 +ℤ pos 32768) ÷ 65536)

module _ (m : M.Matrix) (p : Pixel) where
  row-byte : (n : MatrixRow) → by_row n p < 256
  row-byte n = matrix-byte _ _ _ _ _ _ _ _ _

  pub matrix-valid : Valid (by_matrix m p)
  unfolding by_matrix
  matrix-valid = record {
    r = premultiplied-le (by_row m.r p) (by_row m.a p) (row-byte m.r);
    g = premultiplied-le (by_row m.g p) (by_row m.a p) (row-byte m.g);
    b = premultiplied-le (by_row m.b p) (by_row m.a p) (row-byte m.b);
  }

  pub matrix-bytes : Bytes (by_matrix m p)
  unfolding by_matrix
  matrix-bytes = record {
    r = lt_of_le_of_lt matrix-valid.r (row-byte m.a);
    g = lt_of_le_of_lt matrix-valid.g (row-byte m.a);
    b = lt_of_le_of_lt matrix-valid.b (row-byte m.a);
    a = row-byte m.a;
  }
