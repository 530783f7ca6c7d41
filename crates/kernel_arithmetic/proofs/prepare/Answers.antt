-- `kernel_arithmetic::prepare` meets its contract. The loop keeps that the lines filled so far hold the channels. Assumes nothing.
use mathlib.Core.Path.{◌∙◌}
use Prim.Native.Nat.{◌*◌}
use native.Mathlib.Omega.{arith}
use Rattle.pixel.specs.Arithmetic.{channel_of}
use Rattle.kernel_alpha.proofs.LentParts.{filled-lent}
use Rattle.kernel_arithmetic.proofs.ChannelIsLine.{level-law}
use Rattle.kernel_arithmetic.proofs.TableLines.{table-line-more}
use Rattle.kernel_arithmetic.proofs.prepare.Goals as goal

pub loop-i-preserved : goal.loop-i-preserved
loop-i-preserved c =
    let L = c.loop-i in
    let k = c.args.k in
    let F = filled-lent _ (256 * L.i) _ 256 L.table _ (omega arith) (omega arith) c.fill_line.ensures in (
      omega arith,
      F.long ∙ L.invariant.1,
      table-line-more (channel_of k) _ _ _ _ L.invariant.2 (λ y. level-law k.k1.above k.k1.below k.k2.above k.k2.below k.k3.above k.k3.below k.k4.above k.k4.below L.i y) F,
    )
