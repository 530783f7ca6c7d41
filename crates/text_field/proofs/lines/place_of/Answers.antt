-- `text_field::lines::place_of` meets its contract: std's `position` gives the place. Assumes nothing.
use Rattle.std.proofs.Common.{eqb, rules, tests}
use Rattle.std.proofs.lemmas.Iterator.{YieldsList-from_slice}
use Rattle.std.proofs.lemmas.Iterator.Search.{position_from_yields_List}
use Rattle.text_field.specs.Split.{index_of}
use Rattle.text_field.proofs.lines.place_of.Goals as goal

pub returns : goal.returns
unfolding index_of
returns c =
    position_from_yields_List (λ x. eqb x c.args.d) _ _ _ c.position.ensures.ran (YieldsList-from_slice c.args.s.now cc) (λ x b q k. search (rules, tests))
