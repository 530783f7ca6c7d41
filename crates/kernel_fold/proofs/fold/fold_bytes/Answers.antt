-- `fold_bytes` meets its contract: each turn stores one byte more of the fold. Assumes nothing.
use mathlib.Core.Path.{refl}
use Rattle.kernel_fold.specs.Operation.{operation}
use Rattle.kernel_fold.proofs.FoldedRanges.{fold_more}
use Rattle.kernel_fold.proofs.fold.fold_bytes.Goals as goal

pub loop-i-preserved : goal.loop-i-preserved
loop-i-preserved g c =
    let a = c.args in
    let r = c.requires in
    fold_more (operation a.op) _ a.to a.m c.loop-i.i _ _ c.loop-i-test.true c.loop-i.invariant a.first a.others _ r.0 r.1 r.2 c.extreme_after.ensures refl
