-- `kernel_curve::linear_byte` meets its contract: the law of the two natural sums. Assumes nothing.
use mathlib.Core.Path.{◌∙◌, ap}
use Prim.Native.Nat.{ℕ, ◌/◌, min}
use Rattle.kernel_curve.proofs.Channels.{linear-natural}
use Rattle.kernel_curve.proofs.linear_byte.Goals as goal

pub returns : goal.returns
returns c =
    let s = c.args in
    c.limited.ensures
    ∙ ap (λ (x : ℕ). min (x / 65536) 255) c.saturating_sub.ensures
    ∙ linear-natural s.slope.above s.slope.below s.intercept.above s.intercept.below s.c
