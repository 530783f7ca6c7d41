-- `text_step::convolutions::edge_in` meets its contract: the bytes of a word. Assumes nothing.
use Rattle.std.proofs.Common.{rules, arith, codes}
use Rattle.std.proofs.lemmas.Slice.Eq.{text_from_reads}
use Rattle.text_step.specs.Convolutions.{edge_in}
use Rattle.text_step.proofs.convolutions.edge_in.Goals as goal

pub returns-in-duplicate : goal.returns-in-duplicate
unfolding edge_in
returns-in-duplicate c =
    let e = text_from_reads c.args.f.now (codes "duplicate") (omega arith) (search rules) in
    rw e
