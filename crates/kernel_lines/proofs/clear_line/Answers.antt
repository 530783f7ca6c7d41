-- `kernel_lines::clear_line` meets its contract: pixels of the buffer are places of the line. Assumes nothing.
use Rattle.std.proofs.Common.{ℕ, ◌+◌, ◌*◌, refl, arith}
use Rattle.window.specs.Limits.{longest_side}
use Rattle.kernel_lines.proofs.ExtendedRows.{painted-from}
use Rattle.kernel_lines.proofs.clear_line.Goals as goal

pub returns : goal.returns
returns c =
    let s : ℕ = c.args.i * (longest_side + 4) in
    painted-from _ _ _ s _ _ 0 _ _ _ (omega arith) (omega arith) refl (λ x l h. refl) c.clear_pixels.ensures
