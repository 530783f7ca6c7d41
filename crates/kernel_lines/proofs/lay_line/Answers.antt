-- `kernel_lines::lay_line` meets its contract: the places before the row, the row and those behind it meet. Assumes nothing.
use Prim.Native.Nat.{ℕ, ◌+◌, ◌*◌}
use mathlib.Core.Path.{◌≡◌}
use native.Mathlib.Omega.{arith}
use Rattle.window.specs.Limits.{longest_side}
use Rattle.pixel.specs.Convolve.{extended}
use Rattle.pixel.proofs.PaintedRows.{painted-join}
use Rattle.kernel_lines.specs.Lines.{line_bytes, pixel_in}
use Rattle.kernel_lines.proofs.ExtendedRows.{extended-block, painted-from}
use Rattle.kernel_lines.proofs.lay_line.Goals as goal

pub returns : goal.returns
returns c =
    let a = c.args in
    let s : ℕ = a.i * (longest_side + 4) in
    let f = extended a.edge a.w a.t (pixel_in a.row.now a.w) in
    let at : 4 * s ≡ a.i * line_bytes = omega arith in
    let row = painted-from _ f (a.i * line_bytes) s (s + a.t) (s + a.t + a.w) a.t (a.t + a.w) _ _ (omega arith) (omega arith) (omega arith)
    (λ x l h. extended-block a.edge a.w a.t s x a.row.now l h) c.copy_pixels.ensures in
    painted-join f _ 0 a.t _ _ _ _ (omega arith) (omega arith) (rw at at c.lay_places.ensures)
    (painted-join f _ a.t (a.t + a.w) _ _ _ _ (omega arith) (omega arith) row (rw at at c.lay_places-2.ensures))
