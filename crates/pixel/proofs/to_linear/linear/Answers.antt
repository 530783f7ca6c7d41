-- `pixel::to_linear::linear` meets its contract: the table in the code is the table of the rules. Assumes nothing.
use mathlib.Core.Path.{refl}
use Rattle.pixel.specs.Space.{to_linear}
use Rattle.pixel.proofs.to_linear.linear.Goals as goal

pub returns : goal.returns
unfolding to_linear
returns c = refl

-- no goal: array-read-result : tie.Need-array-read-result
-- array-read-result c = search rules
