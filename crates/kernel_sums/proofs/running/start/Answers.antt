-- `start` meets its contract: half of the size, and the lines ahead of the first. Assumes nothing.
use mathlib.Core.Path.{◌≡◌, ap, ◌∙◌}
use Prim.Native.Nat.{ℕ, ◌+◌}
use native.Mathlib.Omega.{arith}
use borrow.Author.Rules.{rules}
use Rattle.window.specs.Window.{fold}
use Rattle.kernel_sums.specs.Running.{columns}
use Rattle.kernel_sums.proofs.FilledParts.{front-replicate}
use Rattle.kernel_sums.proofs.SlidingSums.{fold-none, fold_more, fold-le, running-start}
use Rattle.kernel_sums.proofs.PassColumns.{columns-lt}
use Rattle.kernel_sums.proofs.running.start.Goals as goal

pub loop-v-init : goal.loop-v-init
loop-v-init c =
    let a = c.args in
    record {
      sums = λ i h. omega (arith, front-replicate _ a.p.n a.sums.now c.fill.new.self c.requires.1 (c.fill.ensures.after (λ y e. e)) i h, fold-none (columns a.p a.buf.now i));
      long = search rules;
    }

pub enter-requires-clause-by_index : goal.enter-requires-clause-by_index
enter-requires-clause-by_index c =
    let a = c.args in
    let L = c.loop-v in
    λ i h. omega (arith, L.invariant.sums i h, c.requires.2, fold-le (columns a.p a.buf.now i) L.v (columns-lt a.p a.buf.now c.type_inv.buf i))

pub loop-v-preserved : goal.loop-v-preserved
loop-v-preserved c =
    let a = c.args in
    let L = c.loop-v in
    let E = c.enter.ensures in
    record {
      sums = λ i h. omega (arith, E.inside i (omega arith) h, L.invariant.sums i h, fold_more (columns a.p a.buf.now i) L.v);
      long = E.long ∙ L.invariant.long;
    }

pub returns : goal.returns
returns c =
    let a = c.args in
    let L = c.loop-v in
    let e : L.v ≡ a.p.ahead = omega arith in
    λ i h. omega (arith, L.invariant.sums i h, ap (λ (k : ℕ). fold ◌+◌ 0 k (columns a.p a.buf.now i)) e, running-start a.p.back a.p.ahead (columns a.p a.buf.now i))
