-- `damage::rectangle::area` meets its contract: both sides are at most 1,024. Assumes nothing.
use Rattle.window.proofs.Numbers.{area-le}
use Rattle.filter.specs.Rect.{area}
use native.Mathlib.Omega.{arith}
use Rattle.damage.proofs.rectangle.area.Goals as goal

pub overflow_mul-result : goal.overflow_mul-result
overflow_mul-result c = omega (arith, area-le c.saturating_sub.result c.saturating_sub-2.result (omega arith) (omega arith))

pub returns : goal.returns
unfolding area
returns c = (rw (c.saturating_sub.ensures, c.saturating_sub-2.ensures), area-le c.saturating_sub.result c.saturating_sub-2.result (omega arith) (omega arith))
