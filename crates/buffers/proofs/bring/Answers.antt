-- What is copied is the row that stands there, and a row of the other space is converted. Assumes nothing.
use Rattle.std.proofs.Common.{sym, ◌∙◌}
use Rattle.buffers.proofs.ShownInputs.{shown-own, loaded-other}
use Rattle.buffers.proofs.bring.Goals as goal

pub returns-then-converts : goal.returns-then-converts
returns-then-converts c =
    let a = c.args in
    loaded-other a.context a.source.now a.workspace.now a.input (sym c.converts.ensures ∙ c.if-converts.true) a.part _ _ _
    c.copy_row.ensures c.convert_loaded.ensures

pub returns-else-converts : goal.returns-else-converts
returns-else-converts c =
    let a = c.args in
    rw (shown-own a.context a.source.now a.workspace.now a.input (sym c.converts.ensures ∙ c.if-converts.false)) c.copy_row.ensures
