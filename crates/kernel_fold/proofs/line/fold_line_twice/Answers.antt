-- `fold_line_twice` meets its contract: the four lines that two growths read lie apart from the line that is stored. Assumes nothing.
use mathlib.Core.Path.{refl}
use native.Mathlib.Omega.{arith}
use Rattle.kernel_fold.specs.Operation.{operation}
use Rattle.kernel_fold.proofs.Semilattices.{lattice}
use Rattle.kernel_fold.proofs.Foldables.{four}
use Rattle.kernel_fold.proofs.FoldedTwice.{line-twice}
use Rattle.kernel_fold.proofs.line.fold_line_twice.Goals as goal

pub fold_bytes-requires : goal.fold_bytes-requires
fold_bytes-requires c =
    let at = c.line_at-to.ensures in (
      omega arith,
      four c.args.lines c.args.buf.now _ c.requires.0 refl _ _ (omega (arith, at.0), at.1) _ _ _ _
          (omega (arith, c.line_at-a.ensures.0), c.line_at-a.ensures.1)
          (omega (arith, c.line_at-b.ensures.0), c.line_at-b.ensures.1)
          (omega (arith, c.line_at-c.ensures.0), c.line_at-c.ensures.1)
          (omega (arith, c.line_at-d.ensures.0), c.line_at-d.ensures.1),
    )

pub returns : goal.returns
returns c =
    line-twice (operation c.args.op) (lattice c.args.op) _ _ _ _ _ _ _ _ _ _ _ _ _ _ _ _ _ _ _ _ _ _
    c.earlier_line-y.ensures.0
    c.later_line-z.ensures.0
    c.earlier_line.ensures.0
    c.later_line.ensures.0
    c.earlier_line-2.ensures.0
    c.later_line-2.ensures.0
    c.line_at-a.ensures.0
    c.line_at-b.ensures.0
    c.line_at-c.ensures.0
    c.line_at-d.ensures.0
    c.line_at-to.ensures.0
    c.fold_bytes.ensures
