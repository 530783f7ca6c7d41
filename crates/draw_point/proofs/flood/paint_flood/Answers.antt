-- `draw_point::flood::paint_flood` meets its contract: the filled part is the row's. Assumes nothing.
use Prim.Native.Nat.{◌+◌, ◌-◌, ◌*◌, ◌≤◌}
use mathlib.Core.Path.{refl}
use native.Mathlib.Omega.{arith}
use lib.ListN.{length}
use Rattle.buffers.proofs.LoadedRows.{painted-into}
use Rattle.draw_point.proofs.flood.paint_flood.Goals as goal

pub returns : goal.returns
returns c =
    let a = c.args in
    let R = c.requires.2 in
    let fits : c.start-lo.result + 4 * (a.part.to - a.part.from) ≤ length a.workspace.now = omega (arith, c.start-lo.ensures.from_bound.0, c.requires.1, R.order, R.wide) in
    painted-into c.start-lo.result (a.part.to - a.part.from) a.workspace.now fits _ _ _ _ _ _ c.start-lo.ensures.value refl R.order (λ j l. refl) c.fill.ensures
