-- `draw::draw` meets its contract: the table is that of the step's space, or empty. Assumes nothing.
use native.Mathlib.Omega.{arith}
use Rattle.draw.proofs.draw.Goals as goal

pub draw_shape-requires : goal.draw_shape-requires
draw_shape-requires c =
    let v = c.requires.valid_inputs in
    record { drawable = (record { readable = record { sized = c.requires.sized.0; tabled = record { good = λ l. absurd (omega arith) } }; valid = v.0 }, c.requires.sized.1); earlier = (v.1, v.2, c.requires.within) }
