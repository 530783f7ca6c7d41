-- `text_field::lines::count` meets its contract: std's `split` gives the pieces, and `count` how many. Assumes nothing.
use Rattle.std.proofs.Common.{eqb, rules, tests}
use Rattle.std.proofs.lemmas.Iterator.Splits.{YieldsList-from_slice_split}
use Rattle.std.proofs.lemmas.Iterator.Consumers.{count_from_yields_List}
use Rattle.text_field.specs.Split.{split}
use Rattle.text_field.proofs.lines.count.Goals as goal

pub returns : goal.returns
unfolding split
returns c =
    count_from_yields_List c.split.result _ c.count.ensures.ran (YieldsList-from_slice_split _ (λ x. eqb x 9) c.args.line.now c.split.ensures.rest c.split.ensures.done c.split.ensures.closure (λ x b q k. search (rules, tests)))
