-- `grow_windows` meets its contract: each turn makes the windows longer, and turns the way round. Assumes nothing.
use mathlib.Core.Path.{◌≡◌, refl}
use mathlib.Core.Logic.{inl}
use native.Mathlib.Omega.{arith}
use Rattle.kernel_morph.proofs.PingPongGrowth.{pingpong-start, pingpong-place, standing-next}
use Rattle.kernel_morph.proofs.growth.grow_windows.Goals as goal

pub loop-now-init : goal.loop-now-init
loop-now-init c = record {
  lines = pingpong-start _ _ _ _ _ c.args.buf.now (λ j. omega (arith, c.type_inv.buf j));
  place = inl (refl, refl);
  n_is = refl;
  count_is = refl;
  low = omega arith;
  high = omega arith;
}

pub loop-now-preserved : goal.loop-now-preserved
loop-now-preserved c =
    let W = c.widen-now.ensures in
    let E = c.turned-way.ensures in
    standing-next _ _ _ _ _ _ _ _ _ _ c.loop-now.invariant W.widened W.towards E.from E.to E.n E.count

pub returns : goal.returns
returns c =
    let I = c.loop-now.invariant in
    let e : c.loop-now.now.back ≡ c.args.whole.back = omega (arith, I.low, I.high) in
    let h : c.loop-now.now.ahead ≡ c.args.whole.ahead = omega (arith, I.low, I.high) in
    rw (← e, ← h) (pingpong-place _ _ _ _ _ _ _ _ _ I.place I.lines)
