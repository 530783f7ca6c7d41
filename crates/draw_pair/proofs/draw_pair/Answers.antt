-- A kind is its kernel, with what it takes of the values. An empty rectangle has no pixels. Assumes nothing.
use Rattle.std.proofs.Common.{rules}
use Rattle.pixel.specs.Composite.{composited}
use Rattle.filter.specs.Kinds.{paired}
use Rattle.draw_pair.proofs.draw_pair.Goals as goal

pub pair_rows-requires-clause-gives : goal.pair_rows-requires-clause-gives
pair_rows-requires-clause-gives c = (composited c.in-Operator.o, λ a b f g dst n f' g' dst' A B e. search rules)

pub returns-in-Operator : goal.returns-in-Operator
unfolding paired
returns-in-Operator c = rw c.in-Operator.is (c.pair_rows.ensures (composited c.in-Operator.o) (λ a b f g dst n f' g' dst' A B e. search rules))

pub returns-in-Arithmetic : goal.returns-in-Arithmetic
unfolding paired
returns-in-Arithmetic c = rw c.in-Arithmetic.is c.draw_arithmetic.ensures
