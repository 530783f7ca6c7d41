-- `fold_around` meets its contract: the lines in three runs, the middle one a fold of three. Assumes nothing.
use mathlib.Core.Path.{refl, ◌∙◌}
use native.Mathlib.Omega.{arith}
use Rattle.kernel_fold.specs.Operation.{operation}
use Rattle.kernel_fold.proofs.Foldables.{apart-of, room, two, three}
use Rattle.kernel_fold.proofs.LineRuns.{around-runs}
use Rattle.kernel_fold.proofs.Semilattices.{lattice}
use Rattle.kernel_fold.proofs.line.fold_around.Goals as goal

pub overflow_sub-whole-2 : goal.overflow_sub-whole-2
overflow_sub-whole-2 c = omega (arith, room c.args.lines c.args.near.back c.args.near.ahead c.requires.1)

pub fold_bytes-requires : goal.fold_bytes-requires
fold_bytes-requires c =
    let a = c.args in
    let r = room a.lines a.near.back a.near.ahead c.requires.1 in
    (omega arith, two a.lines a.buf.now _ c.requires.0 refl _ _ (omega (arith, r), omega (arith, r)) _ _ (omega (arith, r), omega (arith, r)) (omega (arith, r), omega (arith, r)))

pub fold_bytes-requires-2 : goal.fold_bytes-requires-2
fold_bytes-requires-2 c =
    let a = c.args in
    let r = room a.lines a.near.back a.near.ahead c.requires.1 in
    (omega arith, three a.lines a.buf.now _ c.requires.0 c.fold_bytes.ensures.long _ _ (omega (arith, r), omega (arith, r)) _ _ _ (omega (arith, r), omega (arith, r)) (omega (arith, r), omega (arith, r)) (omega (arith, r), omega (arith, r)))

pub fold_bytes-requires-3 : goal.fold_bytes-requires-3
fold_bytes-requires-3 c =
    let a = c.args in
    let r = room a.lines a.near.back a.near.ahead c.requires.1 in
    (omega arith, two a.lines a.buf.now _ c.requires.0 (c.fold_bytes-2.ensures.long ∙ c.fold_bytes.ensures.long) _ _ (omega (arith, r), omega (arith, r)) _ _ (omega (arith, r), omega (arith, r)) (omega (arith, r), omega (arith, r)))

pub returns : goal.returns
returns c =
    let op = c.args.op in
    around-runs (operation op) _ _ _ _ _ _ _ _ _ _ (apart-of c.args.lines) c.requires.1 (lattice op) c.fold_bytes.ensures c.fold_bytes-2.ensures c.fold_bytes-3.ensures
