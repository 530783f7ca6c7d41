-- `kernel_taps::lanes::fill` meets its contract: one store more in each turn. Assumes nothing.
use Rattle.std.proofs.Common.{ℕ, ◌≡◌, arith}
use Rattle.std.proofs.lemmas.List.{length-take}
use Rattle.window.proofs.Store.{filled_none, filled_more}
use Rattle.kernel_taps.proofs.FilledFronts.{filled-front}
use Rattle.kernel_taps.proofs.lanes.fill.Goals as goal

pub loop-b-init : goal.loop-b-init
loop-b-init g c = filled_none _ _ _

pub loop-b-preserved : goal.loop-b-preserved
loop-b-preserved g c = filled_more _ _ _ _ _ _ (omega arith) c.loop-b-test.true c.lane.ensures c.loop-b.invariant

pub returns : goal.returns
returns g c =
    let all : c.loop-b.b ≡ c.args.n = omega (arith, length-take {A = ℕ}) in
    filled-front _ c.args.n c.args.out.now c.loop-b.x-items (omega arith) (rw all at c.loop-b.invariant)
