-- `kernel_taps::prepared::prepare_by` meets its contract: the law of small kernels. Assumes nothing.
use Rattle.std.proofs.Common.{arith, ◌+◌, ◌*◌, ◌/◌, ◌≤◌}
use Rattle.kernel_taps.proofs.SmallKernels.{finished-is}
use Rattle.kernel_taps.proofs.prepared.prepare_by.Goals as goal

pub returns : goal.returns
returns c =
    let scale = c.in_ok-scale in
    let taps = c.in_ok-taps in
    let fits : 255 * taps.taps.most + scale.scale.size / 2 ≤ 65535 = omega arith in
    record {
      same = λ n lines b few lc lr F.
          finished-is c.args.kernel.now.convolution c.args.kernel.now.values _ _ _ _ _ taps.ensures.taps_of n few lc lr lines b F
          _ _ _ c.new-finish.ensures c.requires.unbiased.1 (omega (arith, scale.ensures.le_size.0)) c.requires.d_value.0
          scale.ensures.scaled c.requires.unbiased.0 fits;
    }
