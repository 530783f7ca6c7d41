-- `text_step::kinds::kind_in` meets its contract: the bytes of the longer words. Assumes nothing.
use Rattle.std.proofs.Common.{sym, ◌∙◌, codes, arith, rules}
use Rattle.std.proofs.lemmas.Slice.Eq.{text_from_reads}
use Rattle.text_step.specs.Kinds.{first_kind, kind_of}
use Rattle.text_step.proofs.KindsGiven.{kind-flood, kind-curve}
use Rattle.text_step.proofs.kinds.kind_in.Goals as goal

pub returns-in-erode : goal.returns-in-erode
unfolding kind_of first_kind
returns-in-erode c =
    let e = sym c.field.ensures ∙ text_from_reads c.field.result.now (codes "erode") (omega arith) (search rules) in
    rw e

pub returns-in-arith : goal.returns-in-arith
unfolding kind_of first_kind
returns-in-arith c =
    let e = sym c.field.ensures ∙ text_from_reads c.field.result.now (codes "arith") (omega arith) (search rules) in
    rw e

pub returns-in-merge : goal.returns-in-merge
unfolding kind_of first_kind
returns-in-merge c =
    let e = sym c.field.ensures ∙ text_from_reads c.field.result.now (codes "merge") (omega arith) (search rules) in
    rw (e, c.merge_inputs.ensures)

pub returns-in-offset : goal.returns-in-offset
unfolding kind_of first_kind
returns-in-offset c =
    let e = sym c.field.ensures ∙ text_from_reads c.field.result.now (codes "offset") (omega arith) (search rules) in
    rw e

pub returns-in-dilate : goal.returns-in-dilate
unfolding kind_of first_kind
returns-in-dilate c =
    let e = sym c.field.ensures ∙ text_from_reads c.field.result.now (codes "dilate") (omega arith) (search rules) in
    rw e

pub returns-in-matrix : goal.returns-in-matrix
unfolding kind_of first_kind
returns-in-matrix c =
    let e = sym c.field.ensures ∙ text_from_reads c.field.result.now (codes "matrix") (omega arith) (search rules) in
    rw e

pub returns-in-saturate : goal.returns-in-saturate
unfolding kind_of first_kind
returns-in-saturate c =
    let e = sym c.field.ensures ∙ text_from_reads c.field.result.now (codes "saturate") (omega arith) (search rules) in
    rw e

pub returns-in-lumalpha : goal.returns-in-lumalpha
unfolding kind_of first_kind
returns-in-lumalpha c =
    let e = sym c.field.ensures ∙ text_from_reads c.field.result.now (codes "lumalpha") (omega arith) (search rules) in
    rw e

pub returns-in_ok-byte_field-in-flood-3 : goal.returns-in_ok-byte_field-in-flood-3
returns-in_ok-byte_field-in-flood-3 c =
    kind-flood _ (sym c.field.ensures ∙ text_from_reads c.field.result.now (codes "flood") (omega arith) (search rules)) (sym c.byte_field.ensures ∙ c.in_ok-byte_field-in-flood.was)
    (sym c.byte_field-in-flood.ensures ∙ c.in_ok-byte_field-in-flood-2.was) (sym c.byte_field-in-flood-2.ensures ∙ c.in_ok-byte_field-in-flood-3.was)

pub returns-in_ok-transfers_in-in-curve : goal.returns-in_ok-transfers_in-in-curve
returns-in_ok-transfers_in-in-curve c =
    kind-curve _ (sym c.field.ensures ∙ text_from_reads c.field.result.now (codes "curve") (omega arith) (search rules)) (sym c.transfers_in.ensures ∙ c.in_ok-transfers_in-in-curve.was)
