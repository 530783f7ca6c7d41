-- `number::judge_single` meets its contract: the NaN is refused, and any other single is that of its bits. Assumes nothing.
use denote.Floats.{passes}
use mathlib.Core.Path.{◌∙◌, sym, ap}
use lib.Ieee.{Float, binary32}
use lib.Ieee.Bits.{of_bits-to_bits}
use Rattle.number.specs.Number.{judged_exact, of_single}
use Rattle.number.proofs.Singles.{is-nan}
use Rattle.number.proofs.judge_single.Goals as goal

pub returns-then-is_nan : goal.returns-then-is_nan
returns-then-is_nan c = rw (is-nan c.args.x (sym c.is_nan.ensures.value ∙ c.if-is_nan.true))

pub returns : goal.returns
returns c =
    let a = c.args in
    c.judge_bits.ensures ∙ ap (λ (y : Float). judged_exact a.range (of_single y)) (of_bits-to_bits binary32 a.x (passes _ c.well_formed.1.0.1))
