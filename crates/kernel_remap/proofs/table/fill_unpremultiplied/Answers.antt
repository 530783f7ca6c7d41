-- `kernel_remap::table::fill_unpremultiplied` meets its contract: one store more in each turn of the part that was lent. Assumes nothing.
use mathlib.Core.Path.{◌∙◌, ap}
use Prim.Native.Nat.{ℕ}
use native.Mathlib.Omega.{arith}
use Rattle.pixel.specs.Alpha.{unpremultiplied}
use Rattle.window.proofs.Store.{filled_more}
use Rattle.kernel_alpha.proofs.LentParts.{filled-front}
use Rattle.kernel_remap.proofs.table.fill_unpremultiplied.Goals as goal

pub loop-c-preserved : goal.loop-c-preserved
loop-c-preserved c =
    let L = c.loop-c in
    let s = c.args in
    let e = c.unpremultiply.ensures.0 ∙ ap (λ (u : ℕ). unpremultiplied u s.a) c.seen.ensures.0 in
    filled_more _ _ _ _ _ _ (omega arith) (omega arith) e L.invariant

pub returns : goal.returns
returns c = filled-front _ _ c.loop-c.c _ _ (omega arith) (omega arith) c.loop-c.invariant
