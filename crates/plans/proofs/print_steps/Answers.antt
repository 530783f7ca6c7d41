-- `plans::print_steps` meets its contract: the rectangles so far end on the largest canvas. Assumes nothing.
use mathlib.Core.Path.{ap, ◌∙◌}
use native.Mathlib.Omega.{arith}
use lib.ListN.{length, length-replicate}
use Rattle.filter.specs.declared.Rect.{Rect}
use Rattle.filter.specs.Rect.{empty}
use Rattle.filter.specs.Limits.{longest_side, most_steps}
use Rattle.plans.proofs.Rects.{none_within}
use Rattle.plans.proofs.print_steps.Goals as goal

pub loop-n-init : goal.loop-n-init
loop-n-init g c =
    let e = c.none_so_far-damages.ensures in
    (omega arith, omega arith, omega (arith, e.1), ap length e.0 ∙ length-replicate {A = Rect} most_steps empty, none_within longest_side longest_side c.args.changed c.requires.3 most_steps c.none_so_far-damages.result.rects e.0)
