-- The new channels of a row, and then their colours premultiplied. Assumes nothing.
use mathlib.Core.Path.{◌≡◌, ap, ◌∙◌}
use mathlib.Core.List.{List}
use Prim.Native.Nat.{ℕ, ◌+◌, ◌*◌}
use native.Mathlib.Omega.{arith}
use Rattle.pixel.specs.declared.Matrix.{Matrix}
use Rattle.pixel.specs.Matrix.{by_matrix}
use Rattle.pixel.specs.Bytes.{pixel_at, Painted}
use Rattle.kernel_alpha.specs.Premultiplied.{premultiplied_pixel}
use Rattle.kernel_matrix.specs.Code.{by_rows}

pub by-matrix-row : (m : Matrix) (s d d' d'' : List ℕ) (n : ℕ)
    → Painted (λ x. by_rows m (pixel_at s (4 * x))) 0 0 n d d' → Painted (λ x. premultiplied_pixel (pixel_at d' (4 * x))) 0 0 n d' d''
    → Painted (λ x. by_matrix m (pixel_at s (4 * x))) 0 0 n d d''
unfolding by_matrix premultiplied_pixel by_rows
by-matrix-row m s d d' d'' n P Q = record {
  inside = λ x lo hi.
      let z : 0 + 4 * x ≡ 4 * x = omega arith in
      Q.inside x lo hi ∙ ap premultiplied_pixel (rw z at (P.inside x lo hi));
  before = λ i h. Q.before i h ∙ P.before i h;
  after = λ i h. Q.after i h ∙ P.after i h;
  long = Q.long ∙ P.long;
}
