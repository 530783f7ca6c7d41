-- `pixel::color_matrix::saturation_matrix` meets its contract. Each call gives its coefficient or its row. Assumes nothing.
use mathlib.Core.Path.{refl}
use Rattle.pixel.specs.Matrix.{saturation}
use Rattle.pixel.proofs.Saturated.{saturation-allowed}
use Rattle.pixel.proofs.color_matrix.saturation_matrix.Goals as goal

pub returns : goal.returns
unfolding saturation
returns c =
    rw (
      c.positive_row.ensures,
      c.positive_row-2.ensures,
      c.positive_row-3.ensures,
      c.positive_row-4.ensures,
      c.rising_weight.ensures,
      c.rising_weight-2.ensures,
      c.rising_weight-3.ensures,
      c.falling_weight-blue.ensures,
      c.falling_weight-green.ensures,
      c.falling_weight-red.ensures,
    )
    (refl {a = saturation c.args.s}, saturation-allowed c.args.s c.requires)
