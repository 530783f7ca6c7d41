-- `box_pass` meets its contract: one line after another. Assumes nothing.
use mathlib.Core.Path.{◌≡◌}
use native.Mathlib.Omega.{arith}
use Rattle.kernel_blur.proofs.PassLines.{run-start, run-more, advanced-lined}
use Rattle.kernel_blur.proofs.pass.box_pass.Goals as goal

pub loop-v-init : goal.loop-v-init
loop-v-init c =
    run-start _ _ _ _
    (record {
      source = c.requires.n_in_bounds.0;
      target = c.requires.n_in_bounds.1;
      apart = c.requires.n_in_bounds.2;
      sums = omega (arith, c.requires.n_in_bounds_2.0, c.start.auto.sums);
      limit = c.requires.n_in_bounds_2.3;
      few = c.requires.n_in_bounds_2.1;
      divides = c.reciprocal_of.ensures.2;
    })
    c.start.ensures
    c.start.auto.sums

pub loop-v-preserved : goal.loop-v-preserved
loop-v-preserved c = run-more _ _ _ _ _ _ _ _ c.loop-v.invariant (omega arith) c.edge_line.ensures

pub loop-v-2-preserved : goal.loop-v-2-preserved
loop-v-2-preserved c = run-more _ _ _ _ _ _ _ _ c.loop-v-2.invariant (omega arith) c.inner_line.ensures

pub loop-v-3-init : goal.loop-v-3-init
loop-v-3-init c =
    let e : c.loop-v-2.v ≡ c.max-z.result = omega arith in
    rw (← e) c.loop-v-2.invariant

pub loop-v-3-preserved : goal.loop-v-3-preserved
loop-v-3-preserved c = run-more _ _ _ _ _ _ _ _ c.loop-v-3.invariant (omega arith) c.edge_line-in-loop-v-3.ensures

pub returns-clause-lined : goal.returns-clause-lined
returns-clause-lined c =
    let e : c.loop-v-3.v ≡ c.args.count = omega arith in
    advanced-lined _ _ _ _ _ (rw e at c.loop-v-3.invariant.done)
