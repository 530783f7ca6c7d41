use mathlib.Core.Path.{◌≡◌}
use Prim.Native.Nat.{◌*◌, ◌≤◌}
use lib.ListN.{length}
use Rattle.filter.specs.Limits.{longest_side, most_pixels, most_steps}
use Rattle.damage.specs.InputRects.{AllWithin}
use Rattle.plans.proofs.print_steps.Given as goal

abbrev pub invariant-loop-n : goal.invariant-loop-n
invariant-loop-n g l =
    (l.n ≤ l.count) × (l.at ≤ length l.lines) × (l.damages.count ≤ l.n * most_pixels) × (length l.damages.rects ≡ most_steps) × AllWithin longest_side longest_side l.changed l.damages.rects
