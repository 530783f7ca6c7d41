-- What is not converted is seen as it stands. Assumes nothing.
use Rattle.std.proofs.Common.{ap, sym, ◌∙◌, not}
use Rattle.buffers.proofs.Seen.{copied-own}
use Rattle.buffers.proofs.copy_own.Goals as goal

pub returns : goal.returns
returns c =
    let a = c.args in
    let o = sym c.converts.ensures ∙ c.if-converts.false in
    copied-own a.context a.input a.part _ _ _ _ _ (ap not o) o c.copy_row.ensures
