-- `tables::content::sum` meets its contract: each turn takes one byte more. Assumes nothing.
use Rattle.std.proofs.Common.{refl, ◌∙◌, arith}
use Rattle.tables.specs.Content.{sum_of}
use Rattle.tables.proofs.SumsAndZeros.{sum_more}
use Rattle.tables.proofs.content.sum.Goals as goal

pub loop-byte-init : goal.loop-byte-init
unfolding sum_of
loop-byte-init c = (omega arith, refl)

pub loop-byte-preserved : goal.loop-byte-preserved
loop-byte-preserved c =
    let L = c.loop-byte in
    (c.next-sum.ensures.1, c.next-sum.ensures.0 ∙ sum_more _ L.byte-index L.sum L.invariant.1)
