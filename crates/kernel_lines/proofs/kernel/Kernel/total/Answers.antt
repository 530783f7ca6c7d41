-- `kernel_lines::kernel::Kernel::total` meets its contract: one value more in each turn. Assumes nothing.
use Rattle.std.proofs.Common.{◌≡◌, ap, arith}
use Rattle.number.specs.Number.{value}
use Rattle.number.specs.declared.Fixed.{Fixed}
use Rattle.pixel.specs.Convolve.{cells}
use Rattle.std.proofs.lemmas.List.{length-take}
use Rattle.kernel_lines.proofs.Divisors.{taken, diff_is, diff-more, diff-none}
use Rattle.kernel_lines.proofs.kernel.Kernel.total.Goals as goal

pub loop-v-init : goal.loop-v-init
loop-v-init c = record { is_sum = diff-none _; few_above = omega arith; few_below = omega arith }

pub overflow_add-above : goal.overflow_add-above
overflow_add-above c =
    let u = taken _ _ c.args.self.now.convolves c.cells.result c.loop-v.v-index c.cells.ensures.2 c.loop-v-test.true in
    omega (arith, u.1.above, c.loop-v.invariant.few_above)

pub overflow_add-below : goal.overflow_add-below
overflow_add-below c =
    let u = taken _ _ c.args.self.now.convolves c.cells.result c.loop-v.v-index c.cells.ensures.2 c.loop-v-test.true in
    omega (arith, u.1.below, c.loop-v.invariant.few_below)

pub loop-v-preserved : goal.loop-v-preserved
loop-v-preserved c =
    let u = taken _ _ c.args.self.now.convolves c.cells.result c.loop-v.v-index c.cells.ensures.2 c.loop-v-test.true in
    let L = c.loop-v in record {
      is_sum = diff-more L.v-index _ _ _ _ L.invariant.is_sum (ap (λ (x : Fixed). value x) u.0);
      few_above = omega (arith, u.1.above, L.invariant.few_above);
      few_below = omega (arith, u.1.below, L.invariant.few_below);
    }

pub returns-clause-is_sum : goal.returns-clause-is_sum
returns-clause-is_sum c =
    let e : c.loop-v.v-index ≡ cells c.args.self.now.convolution = omega (arith, length-take {A = Fixed}) in
    rw (← e) (diff_is c.loop-v.invariant.is_sum)
