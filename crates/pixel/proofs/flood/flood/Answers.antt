-- `pixel::flood::flood` meets its contract. Each call gives its colour, which stays below the alpha. Assumes nothing.
use mathlib.Core.Path.{refl}
use Rattle.pixel.specs.Flood.{flooded}
use Rattle.pixel.proofs.Flooded.{flooded-valid}
use Rattle.pixel.proofs.flood.flood.Goals as goal

pub returns : goal.returns
unfolding flooded
returns c =
    let x = c.args in
    rw (c.premultiply.ensures.0, c.premultiply-2.ensures.0, c.premultiply-3.ensures.0)
    (refl, flooded-valid x.r x.g x.b x.opacity c.ranges.r.fits c.ranges.g.fits c.ranges.b.fits)
