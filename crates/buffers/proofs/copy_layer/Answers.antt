-- A layer that is not converted is seen as it stands. Assumes nothing.
use Rattle.std.proofs.Common.{sym, ◌∙◌}
use Rattle.buffers.proofs.Seen.{stays-own, copied-own}
use Rattle.buffers.proofs.copy_layer.Goals as goal

pub returns-then-stays : goal.returns-then-stays
returns-then-stays c =
    let a = c.args in
    let e = sym c.stays.ensures ∙ c.if-stays.true in
    copied-own a.context a.input a.part _ _ _ _ _ e (stays-own a.context a.input e) c.copy_row.ensures
