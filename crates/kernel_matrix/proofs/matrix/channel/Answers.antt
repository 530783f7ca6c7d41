-- `kernel_matrix::matrix::channel` meets its contract: the bounds of the four entries, and the law of their sum. Assumes nothing.
use mathlib.Core.Path.{◌∙◌}
use native.Mathlib.Omega.{arith}
use Rattle.kernel_matrix.proofs.BiasedProducts.{entries-le, sum-law}
use Rattle.kernel_matrix.proofs.matrix.channel.Goals as goal

pub overflow_add-table : goal.overflow_add-table
overflow_add-table c = omega (arith, entries-le c.args.m c.args.table.now c.args.c c.args.r c.args.g c.args.b c.args.a c.requires.0 c.requires.1 c.requires.2 c.requires.3 c.requires.4 c.requires.5 c.requires.6)

pub overflow_add-table-2 : goal.overflow_add-table-2
overflow_add-table-2 c = omega (arith, entries-le c.args.m c.args.table.now c.args.c c.args.r c.args.g c.args.b c.args.a c.requires.0 c.requires.1 c.requires.2 c.requires.3 c.requires.4 c.requires.5 c.requires.6)

pub overflow_add-table-3 : goal.overflow_add-table-3
overflow_add-table-3 c = omega (arith, entries-le c.args.m c.args.table.now c.args.c c.args.r c.args.g c.args.b c.args.a c.requires.0 c.requires.1 c.requires.2 c.requires.3 c.requires.4 c.requires.5 c.requires.6)

pub limited-requires : goal.limited-requires
limited-requires c = omega (arith, entries-le c.args.m c.args.table.now c.args.c c.args.r c.args.g c.args.b c.args.a c.requires.0 c.requires.1 c.requires.2 c.requires.3 c.requires.4 c.requires.5 c.requires.6)

pub returns : goal.returns
returns c =
    let x = c.args in
    let p = c.requires in
    c.limited.ensures ∙ sum-law x.m x.table.now x.c x.r x.g x.b x.a p.0 p.1 p.2 p.3 p.4 p.5 p.6
