-- `text_step::spaces::space_in` meets its contract: the bytes of the second word are not those of the first. Assumes nothing.
use Rattle.std.proofs.Common.{rules, arith, codes}
use Rattle.std.proofs.lemmas.Slice.Eq.{text_from_reads}
use Rattle.text_step.specs.Spaces.{space_in}
use Rattle.text_step.proofs.spaces.space_in.Goals as goal

pub returns-in-linear : goal.returns-in-linear
unfolding space_in
returns-in-linear c =
    let e = text_from_reads c.args.f.now (codes "linear") (omega arith) (search rules) in
    rw e
