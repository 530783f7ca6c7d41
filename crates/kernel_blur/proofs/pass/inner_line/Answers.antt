-- `inner_line` meets its contract: the sums are slid and divided by one loop over the line that enters and the one that leaves. Assumes nothing.
use mathlib.Core.Path.{refl}
use Prim.Native.Nat.{◌+◌, ◌-◌, ◌*◌, ◌<◌}
use native.Mathlib.Omega.{arith}
use borrow.Author.Rules.{rules}
use Rattle.window.proofs.Numbers.{line-end}
use Rattle.kernel_sums.specs.Running.{slid}
use Rattle.kernel_sums.proofs.LinesApart.{lines-apart}
use Rattle.kernel_sums.proofs.PassColumns.{Bytes}
use Rattle.kernel_blur.proofs.PassLines.{sum_lt, next_le, inner-slid, advanced-line}
use Rattle.kernel_blur.proofs.pass.inner_line.Goals as goal

pub slide_line-requires-clause-n_in_bounds : goal.slide_line-requires-clause-n_in_bounds
slide_line-requires-clause-n_in_bounds c =
    let a = c.args in
    let p = a.p in
    let pre = c.requires in (
      omega (arith, line-end p.n p.count (a.y + p.ahead) pre.2, pre.0.source),
      omega (arith, line-end p.n p.count (a.y - p.back - 1) (omega (arith, pre)), pre.0.source),
      omega (arith, line-end p.n p.count a.y (omega (arith, pre)), pre.0.target),
      pre.0.sums,
      pre.0.divides,
    )

pub slide_line-requires-clause-apart : goal.slide_line-requires-clause-apart
slide_line-requires-clause-apart c =
    let p = c.args.p in
    let pre = c.requires in
    let here : c.args.y < p.count = omega (arith, pre) in
    (lines-apart _ _ _ _ p.count _ _ refl pre.0.apart pre.2 here, lines-apart _ _ _ _ p.count _ _ refl pre.0.apart (omega (arith, pre)) here)

pub slide_line-requires-clause-slides : goal.slide_line-requires-clause-slides
slide_line-requires-clause-slides c i h =
    let a = c.args in
    let bytes : Bytes a.buf.now = search rules in
    let pre = c.requires in
    let k = inner-slid a.p a.buf.now a.sums.now a.y pre.0 pre.3 bytes pre.1 pre.2 i h in
    (sum_lt a.p a.buf.now a.sums.now a.y pre.0 pre.3 bytes i h, k.0, omega (arith, k.1, next_le a.p a.buf.now a.sums.now a.y pre.0 pre.3 bytes i))

pub returns : goal.returns
returns c =
    let a = c.args in
    let bytes : Bytes a.buf.now = search rules in
    let pre = c.requires in
    advanced-line a.p a.buf.now a.sums.now a.y pre.0 pre.3 bytes _ _
    (slid a.sums.now a.buf.now (a.p.from + (a.y + a.p.ahead) * a.p.n) (a.p.from + (a.y - a.p.back - 1) * a.p.n))
    c.slide_line.ensures.filled
    (λ i h. (inner-slid a.p a.buf.now a.sums.now a.y pre.0 pre.3 bytes pre.1 pre.2 i h).1)
    c.slide_line.ensures.filled_2
