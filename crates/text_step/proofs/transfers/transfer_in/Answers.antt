-- `text_step::transfers::transfer_in` meets its contract: the bytes of a word. Assumes nothing.
use Rattle.std.proofs.Common.{rules, arith, codes, sym, ◌∙◌}
use Rattle.std.proofs.lemmas.Slice.Eq.{text_from_reads}
use Rattle.text_step.specs.Transfers.{transfer_in}
use Rattle.text_step.proofs.transfers.transfer_in.Goals as goal

pub returns-in-linear : goal.returns-in-linear
unfolding transfer_in
returns-in-linear c =
    let e = sym c.field.ensures ∙ text_from_reads c.field.result.now (codes "linear") (omega arith) (search rules) in
    rw e

pub returns-in-identity : goal.returns-in-identity
unfolding transfer_in
returns-in-identity c =
    let e = sym c.field.ensures ∙ text_from_reads c.field.result.now (codes "identity") (omega arith) (search rules) in
    rw e

pub returns-in-discrete : goal.returns-in-discrete
unfolding transfer_in
returns-in-discrete c =
    let e = sym c.field.ensures ∙ text_from_reads c.field.result.now (codes "discrete") (omega arith) (search rules) in
    rw (e, c.whole_at-in-discrete.ensures)
