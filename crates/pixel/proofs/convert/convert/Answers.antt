-- `pixel::convert::convert` meets its contract: each colour is converted with its alpha. Assumes nothing.
use mathlib.Core.Path.{sym, ◌∙◌}
use Rattle.pixel.proofs.Converted.{converted-same, converted-pairs}
use Rattle.pixel.proofs.SpacesDiffer.{differ-is}
use Rattle.pixel.proofs.convert.convert.Goals as goal

pub returns-then-ne : goal.returns-then-ne
returns-then-ne c =
    let a = c.args in
    let e = sym (differ-is a.from a.to) ∙ sym c.ne.ensures ∙ c.if-ne.true in
    rw (c.convert_pair.ensures, c.convert_pair-then-ne.ensures, c.convert_pair-then-ne-2.ensures) (sym (converted-pairs a.from a.to a.p e))

pub returns : goal.returns
returns c =
    let a = c.args in
    sym (converted-same a.from a.to a.p (sym (differ-is a.from a.to) ∙ sym c.ne.ensures ∙ c.if-ne.false))
