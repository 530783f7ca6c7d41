-- `number::nearest_units` meets its contract. Assumes nothing.
use Prim.Native.Nat.{ℕ, ◌+◌, ◌*◌, ◌/◌}
use mathlib.Core.Path.{◌∙◌, ap}
use Rattle.number.proofs.Fraction.{nearest-split}
use Rattle.number.proofs.nearest_units.Goals as goal

pub returns : goal.returns
returns c = ap (λ (z : ℕ). c.args.n / c.args.d * 65536 + z) c.to_even.ensures.0 ∙ nearest-split c.args.n c.args.d c.requires.0
