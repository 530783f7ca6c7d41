-- `draw_convolve::stage::straighten_row` meets its contract. Assumes nothing.
use Prim.Native.Nat.{ℕ, ◌+◌, ◌-◌, ◌*◌}
use mathlib.Core.Path.{sym, ap, subst}
use native.Mathlib.Omega.{arith}
use Rattle.pixel.specs.Alpha.{Valid, straight}
use Rattle.pixel.proofs.PaintedRows.{pixel-part}
use Rattle.buffers.proofs.LoadedRows.{part-long, painted-into}
use Rattle.draw_convolve.proofs.stage.straighten_row.Goals as goal

pub unpremultiply_row-requires : goal.unpremultiply_row-requires
unpremultiply_row-requires c =
    let a = c.args in
    let o : ℕ = 4 * (a.y * a.w) in (
      c.requires.unpremultiply_table.0,
      part-long o a.w a.scratch.now (omega (arith, c.requires.unpremultiply_table.3)),
      record {
        valid = λ x l. subst Valid (sym (pixel-part a.scratch.now o (o + 4 * a.w - o) (4 * x) (4 * (a.y * a.w + x)) (omega arith) (omega arith))) (c.requires.by_index x l);
      },
    )

pub returns : goal.returns
returns c =
    let a = c.args in
    let o : ℕ = 4 * (a.y * a.w) in
    painted-into o a.w a.scratch.now (omega (arith, c.requires.unpremultiply_table.3)) _ _ 0 (a.y * a.w) (a.y * a.w + a.w) _ (omega arith) (omega arith) (omega arith)
    (λ j l. ap straight (pixel-part a.scratch.now o (o + 4 * a.w - o) (4 * j) (4 * (a.y * a.w + j)) (omega arith) (omega arith)))
    c.unpremultiply_row.ensures
