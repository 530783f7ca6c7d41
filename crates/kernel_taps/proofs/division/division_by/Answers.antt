-- `kernel_taps::division::division_by` meets its contract: the test says that the reciprocal divides. Assumes nothing.
use Rattle.std.proofs.Common.{◌*◌, ◌%◌, ◌^◌, ◌≡◌, arith}
use Rattle.kernel_taps.proofs.Reciprocals.{small, divides}
use Rattle.kernel_taps.proofs.division.division_by.Goals as goal

pub overflow_shl-whole : goal.overflow_shl-whole
overflow_shl-whole c = omega (arith, small c.candidate-by.result.shift c.args.size _ c.candidate-by.ensures.shift c.requires.1 c.candidate-by.ensures.mul)

pub returns-then-size-off : goal.returns-then-size-off
returns-then-size-off c =
    let r = c.candidate-by in
    let whole : 65536 * 2 ^ r.result.shift % 18446744073709551616 ≡ 2 ^ r.result.shift * 65536 = omega (arith, r.ensures.shift.below) in
    divides r.result.shift c.args.size r.result.mul r.ensures.shift c.requires.1 r.ensures.mul (rw (c.from.ensures, whole) at c.if-size-off.true)
