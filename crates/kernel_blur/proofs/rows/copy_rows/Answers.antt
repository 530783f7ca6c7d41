-- `copy_rows` meets its contract, one row after another. Assumes nothing.
use mathlib.Core.Path.{◌≡◌}
use native.Mathlib.Omega.{arith}
use Rattle.kernel_blur.proofs.StridedRows.{rows_more}
use Rattle.kernel_blur.proofs.rows.copy_rows.Goals as goal

pub loop-v-preserved : goal.loop-v-preserved
loop-v-preserved c =
    let a = c.args in
    rows_more _ a.to a.step a.n c.loop-v.v _ _ _ c.requires.0 c.loop-v.invariant c.copy_row.ensures

pub returns : goal.returns
returns c =
    let e : c.loop-v.v ≡ c.args.rows = omega arith in
    rw (← e) c.loop-v.invariant
