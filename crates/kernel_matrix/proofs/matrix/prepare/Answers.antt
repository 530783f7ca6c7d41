-- `kernel_matrix::matrix::prepare` meets its contract: one store more in each turn, and the entries as the record has them. Assumes nothing.
use mathlib.Core.Path.{◌≡◌}
use native.Mathlib.Omega.{arith}
use Rattle.window.proofs.Store.{filled_more}
use Rattle.kernel_matrix.proofs.BiasedProducts.{matrix-table-of}
use Rattle.kernel_matrix.proofs.matrix.prepare.Goals as goal

pub loop-i-preserved : goal.loop-i-preserved
loop-i-preserved c = filled_more _ _ _ _ _ _ (omega arith) (omega arith) c.entry.ensures c.loop-i.invariant

pub returns : goal.returns
returns c =
    let e : c.loop-i.i ≡ 4096 = omega arith in
    matrix-table-of _ _ _ c.requires.0 (rw e at c.loop-i.invariant)
