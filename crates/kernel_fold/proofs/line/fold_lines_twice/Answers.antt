-- `fold_lines_twice` meets its contract: each turn stores one line more. Assumes nothing.
use mathlib.Core.Path.{◌≡◌}
use native.Mathlib.Omega.{arith}
use Rattle.kernel_fold.specs.Operation.{operation}
use Rattle.kernel_fold.proofs.Foldables.{apart-of}
use Rattle.kernel_fold.proofs.FoldedTwice.{twice-more}
use Rattle.kernel_fold.proofs.line.fold_lines_twice.Goals as goal

pub loop-v-preserved : goal.loop-v-preserved
loop-v-preserved c =
    twice-more (operation c.args.op) _ _ _ _ _ _ _ _ _ _ _ _ (apart-of c.args.lines) c.loop-v-test.true c.loop-v.invariant c.fold_line_twice.ensures

pub returns : goal.returns
returns c =
    let e : c.loop-v.v ≡ c.args.lines.count = omega arith in
    rw e at c.loop-v.invariant
