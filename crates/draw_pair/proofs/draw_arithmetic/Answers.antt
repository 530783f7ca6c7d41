-- Each row is worked by the kernel. Assumes nothing.
use Rattle.std.proofs.Common.{rules}
use Rattle.pixel.specs.Arithmetic.{by_arithmetic}
use Rattle.draw_pair.proofs.draw_arithmetic.Goals as goal

pub pair_rows-requires-clause-gives : goal.pair_rows-requires-clause-gives
pair_rows-requires-clause-gives c = (by_arithmetic c.arithmetic_of-k.result, λ a b f g dst n f' g' dst' A B e. search rules)

pub returns : goal.returns
returns c = rw c.arithmetic_of-k.ensures at (c.pair_rows.ensures (by_arithmetic c.arithmetic_of-k.result) (λ a b f g dst n f' g' dst' A B e. search rules))
