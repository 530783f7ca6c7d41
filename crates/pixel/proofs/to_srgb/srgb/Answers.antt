-- `pixel::to_srgb::srgb` meets its contract: the table in the code is the table of the rules. Assumes nothing.
use mathlib.Core.Path.{refl}
use Rattle.pixel.specs.Space.{to_srgb}
use Rattle.pixel.proofs.to_srgb.srgb.Goals as goal

pub returns : goal.returns
unfolding to_srgb
returns c = refl

-- no goal: array-read-result : tie.Need-array-read-result
-- array-read-result c = search rules
