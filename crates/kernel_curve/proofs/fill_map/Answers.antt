-- `kernel_curve::fill_map` meets its contract: the gathered entries are the channel's. Assumes nothing.
use native.Mathlib.Omega.{arith}
use Rattle.kernel_curve.proofs.Channels.{map-filled}
use Rattle.kernel_curve.proofs.fill_map.Goals as goal

pub returns : goal.returns
returns c =
    map-filled c.args.transfer c.args.values c.args.first _ _ _ c.args.at _ _ _ c.requires.0 c.fill_entries.ensures
    c.number_at-slope.ensures c.number_at-intercept.ensures (omega arith) (omega arith) c.fill_bytes.ensures
