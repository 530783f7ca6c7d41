-- Each row is worked by the kernel. Assumes nothing.
use Rattle.std.proofs.Common.{rules}
use Rattle.pixel.specs.Matrix.{by_matrix}
use Rattle.draw_map.proofs.draw_matrix.Goals as goal

pub map_rows-requires-clause-maps : goal.map_rows-requires-clause-maps
map_rows-requires-clause-maps c = (by_matrix c.args.m, λ src dst n dst' L e. search rules)

pub returns : goal.returns
returns c = c.map_rows.ensures (by_matrix c.args.m) (λ src dst n dst' L e. search rules)
