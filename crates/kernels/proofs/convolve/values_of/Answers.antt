-- `kernels::convolve::values_of` meets its contract: one number more in each turn. Assumes nothing.
use mathlib.Core.Path.{◌≡◌}
use native.Mathlib.Omega.{arith}
use Rattle.kernels.proofs.PairedNumbers.{paired_none, paired-more, paired-all}
use Rattle.kernels.proofs.convolve.values_of.Goals as goal

pub loop-i-init : goal.loop-i-init
loop-i-init c = paired_none _

pub loop-i-preserved : goal.loop-i-preserved
loop-i-preserved c = paired-more _ c.loop-i.i _ (omega arith) c.loop-i.invariant

pub returns : goal.returns
returns c =
    let k = c.loop-i in
    let e : k.i ≡ 64 = omega arith in
    paired-all _ _ (rw (← e) k.invariant)
