-- `number::judge_bits` meets its contract: one law for each kind of bits. Assumes nothing.
use Rattle.std.proofs.Common.{◌-◌, ◌/◌, ◌%◌, ◌∙◌}
use Rattle.number.proofs.Singles.{bits-top, bits-zero, bits-suc, den_pos, den-le}
use Rattle.number.proofs.judge_bits.Goals as goal

pub returns-then-exponent-eq255 : goal.returns-then-exponent-eq255
returns-then-exponent-eq255 c = let a = c.args in bits-top a.range a.bits (rw c.from-bits.ensures at c.if-exponent-eq255.true)

pub returns-then-exponent-eq0 : goal.returns-then-exponent-eq0
returns-then-exponent-eq0 c =
    let a = c.args in
    c.judge_ratio.ensures ∙ rw (c.denominator.ensures, c.from-bits.ensures) (bits-zero a.range a.bits (rw c.from-bits.ensures at c.if-exponent-eq0.true))

pub judge_ratio-requires-2 : goal.judge_ratio-requires-2
judge_ratio-requires-2 c =
    let k = c.from-bits.result % 2147483648 / 8388608 - 1 in
    rw c.denominator-2.ensures (den_pos k, den-le k)

pub returns : goal.returns
returns c =
    let a = c.args in
    c.judge_ratio-2.ensures
    ∙ rw (c.denominator-2.ensures, c.from-bits.ensures) (bits-suc a.range a.bits (rw c.from-bits.ensures at c.if-exponent-eq255.false) (rw c.from-bits.ensures at c.if-exponent-eq0.false))
