-- `buffers::store_rows` meets its contract: each turn draws one row more. Assumes nothing.
use Prim.Native.Nat.{◌-◌}
use mathlib.Core.Path.{refl}
use native.Mathlib.Omega.{arith}
use Rattle.buffers.specs.Strip.{strip_at}
use Rattle.pixel.proofs.PaintedRows.{painted-as}
use Rattle.buffers.proofs.RowsFit.{strip-row-room}
use Rattle.buffers.proofs.DrawnRows.{drawn-none, drawn-all, drawn-more}
use Rattle.buffers.proofs.store_rows.Goals as goal

pub loop-y-init : goal.loop-y-init
loop-y-init c = (omega arith, omega arith, drawn-none _ _ _ _ _ _ (λ x y i. absurd (omega (arith, i.top, i.bottom))))

pub store-requires : goal.store-requires
store-requires c =
    let a = c.args in
    let L = c.loop-y in
    let e = strip-row-room L.y a.first a.rect.bottom (a.rect.right - a.rect.left) (omega arith) (omega arith) in
    let W = c.requires.in_limits.3 in
    (c.requires.in_limits.0, omega (arith, c.requires.in_limits.1, L.invariant.2.long), record { high = omega (arith, W.bottom); order = omega arith; wide = W.right }, omega arith)

pub loop-y-preserved : goal.loop-y-preserved
unfolding strip_at
loop-y-preserved c =
    let a = c.args in
    let L = c.loop-y in
    (omega arith, omega arith, drawn-more _ _ _ _ _ _ _ _ _ _ _ L.invariant.2 (painted-as _ _ _ _ _ _ _ (λ x l m. refl) c.store.ensures) L.invariant.0 (omega arith) (omega arith) (omega arith))

pub returns : goal.returns
returns c = drawn-all _ _ _ c.args.rect _ _ _ _ c.loop-y.invariant.1 (omega arith) c.loop-y.invariant.2
