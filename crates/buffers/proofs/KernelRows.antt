-- A row that a step sees, and its place in the layer, lent to a kernel. Assumes nothing.
use mathlib.Core.Path.{◌≡◌}
use mathlib.Core.Bool.{true}
use mathlib.Core.List.{List}
use Prim.Native.Nat.{ℕ, ◌+◌, ◌-◌, ◌*◌, ◌≤◌}
use native.Mathlib.Omega.{arith}
use lib.ListN.{length, take, drop}
use Rattle.filter.specs.declared.Input.{Input}
use Rattle.filter.specs.Checks.{allowed?}
use Rattle.buffers.specs.declared.Context.{Context}
use Rattle.buffers.specs.declared.RowPart.{RowPart}
use Rattle.buffers.specs.Shown.{shown}
use Rattle.buffers.specs.Context.{OnRow, Drawable, layer_end}
use Rattle.buffers.specs.Seen.{Seen}
use Rattle.buffers.specs.Kernels.{Lent}
use Rattle.buffers.proofs.LoadedRows.{loaded-pixel, loaded-valid, part-long}
use Rattle.buffers.proofs.ShownInputs.{drawable-valid}

module _ (c : Context) (p : RowPart) (src ws pairs : List ℕ) (D : Drawable c src ws pairs) (R : OnRow c p) (lo : ℕ) (ends : lo + 4 * (c.w - p.from) ≤ layer_end c) where
  pub lent-fits : lo + 4 * (p.to - p.from) ≤ length ws
  lent-fits = omega (arith, D.readable.sized.workspace, R.order, R.wide)

  pub lent-row : (i : Input) (row : List ℕ) → allowed? c.n i ≡ true → Seen (shown c src ws i) p row
      → Lent row (take (lo + 4 * (p.to - p.from) - lo) (drop lo ws)) (p.to - p.from)
  lent-row i row l S = record {
    few = omega (arith, R.wide, D.readable.sized.wide);
    valid = loaded-valid _ _ _ _ _ _ S.held ((drawable-valid _ _ _ _ D).valid i l);
    from = S.long;
    to = part-long lo (p.to - p.from) ws lent-fits;
    bytes = λ x m. rw (loaded-pixel (shown c src ws i) p.y p.from p.to row row S.held x m) (((drawable-valid _ _ _ _ D).valid i l).bytes (p.from + x) p.y);
  }
