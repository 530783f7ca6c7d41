-- `kernel_remap::remap::prepare_maps` meets its contract: the lines of one alpha more in each turn. Assumes nothing.
use mathlib.Core.Path.{◌≡◌, ◌∙◌}
use native.Mathlib.Omega.{arith}
use Rattle.kernel_remap.proofs.Remaps.{tables-filled-more, tables-filled-all}
use Rattle.kernel_remap.proofs.remap.prepare_maps.Goals as goal

pub loop-a-preserved : goal.loop-a-preserved
loop-a-preserved c =
    let L = c.loop-a in
    let S = c.fill_unpremultiplied.ensures in
    let T = c.fill_tables.ensures in
    (omega arith, S.long ∙ L.invariant.1, T.long ∙ L.invariant.2, tables-filled-more _ _ _ _ _ L.a _ _ (omega arith) L.invariant.3 S T)

pub returns : goal.returns
returns c =
    let L = c.loop-a in
    let s = c.args in
    let e : L.a ≡ 256 = omega arith in
    tables-filled-all s.to s.inner.now s.maps.now L.tables (rw e at L.invariant.3) L.invariant.2
