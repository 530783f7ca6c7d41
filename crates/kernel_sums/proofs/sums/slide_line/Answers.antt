-- `slide_line` meets its contract: the lines that are read lie apart from the one that is stored. Assumes nothing.
use mathlib.Core.Path.{◌≡◌, ◌∙◌, ap}
use Prim.Native.Nat.{ℕ, ◌+◌, ◌-◌, ◌/◌}
use native.Mathlib.Omega.{arith}
use lib.ListN.{get_or}
use Rattle.std.proofs.lemmas.List.{get_or-take, length-take-le}
use Rattle.window.proofs.Store.{filled_more}
use Rattle.kernel_sums.specs.Running.{slid}
use Rattle.kernel_sums.proofs.LinesApart.{line-more, line-apart}
use Rattle.kernel_sums.proofs.sums.slide_line.Goals as goal

pub loop-i-preserved : goal.loop-i-preserved
loop-i-preserved c =
    let a = c.args in
    let L = c.loop-i in
    let I = L.invariant in
    let long = length-take-le a.n a.sums.now c.requires.n_in_bounds.3 in
    let t : get_or L.sum-items L.i 0 + c.from.result - c.from-in-loop-i.result ≡ slid a.sums.now a.buf.now a.p a.q L.i =
    omega (
      arith,
      I.sums.after L.i (omega arith) ∙ get_or-take a.n a.sums.now L.i 0 (omega arith),
      line-apart _ _ _ _ _ _ _ c.requires.apart.0 (omega arith) I.line L.i (omega arith),
      line-apart _ _ _ _ _ _ _ c.requires.apart.1 (omega arith) I.line L.i (omega arith),
      c.from.ensures,
      c.from-in-loop-i.ensures,
    ) in
    record {
      sums = filled_more (slid a.sums.now a.buf.now a.p a.q) 0 L.i _ _ _ (omega arith) c.loop-i-test.true t I.sums;
      line = line-more (λ i. slid a.sums.now a.buf.now a.p a.q i / a.size) _ _ _ _ _ (omega arith) (c.mean.ensures ∙ ap (λ (x : ℕ). x / a.size) t) I.line;
    }
