-- Without tables each pixel is remapped by itself. Assumes nothing.
use Rattle.std.proofs.Common.{rules}
use Rattle.pixel.specs.Remap.{remapped}
use Rattle.kernel_remap.specs.Remaps.{maps_in}
use Rattle.draw_curve.proofs.draw_maps.Goals as goal

pub map_rows-requires-clause-maps : goal.map_rows-requires-clause-maps
map_rows-requires-clause-maps c = (remapped (maps_in c.args.maps.now), λ src dst n dst' L e. search rules)

pub returns : goal.returns
returns c = c.map_rows.ensures (remapped (maps_in c.args.maps.now)) (λ src dst n dst' L e. search rules)
