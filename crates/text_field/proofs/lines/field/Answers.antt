-- `text_field::lines::field` meets its contract: no tab stands between the piece's begin and the byte looked at, and piece `left` of what begins
-- there is field i of the line. Assumes nothing.
use Rattle.std.proofs.Common.{◌≡◌, ◌+◌, ◌-◌, suc, length, drop, refl, arith, sym, ◌∙◌, length-drop}
use Rattle.text_field.specs.Split.{index_of}
use Rattle.text_field.proofs.SplitByIndex.{index-le, index-hit, index-miss, piece-last, piece-more, piece-first}
use Rattle.text_field.proofs.lines.field.Goals as goal
use Rattle.text_field.proofs.lines.field.Goals.{then-x-eq9+else-left-eq0, else-x-eq9}

pub returns-then-left-eq0 : goal.returns-then-left-eq0
returns-then-left-eq0 c =
    let s = c.args.line.now in
    let L = c.loop-k in
    let I = L.invariant in
    let e : L.k ≡ L.from + index_of 9 (drop L.from s) = omega (arith, I.2, index-hit 9 s L.k c.loop-k-test.true c.if-x-eq9.true) in
    sym (piece-first 9 s L.from L.k (omega (arith, I.0, I.1)) e) ∙ rw c.if-left-eq0.true at I.3

pub loop-k-preserved : goal.loop-k-preserved
loop-k-preserved c =
    let s = c.args.line.now in
    let L = c.loop-k in
    let I = L.invariant in
    elim c.if-x-eq9.branch [
      | then-x-eq9+else-left-eq0 w ↦
          let e : L.k ≡ L.from + index_of 9 (drop L.from s) = omega (arith, I.2, index-hit 9 s L.k c.loop-k-test.true w.if-x-eq9.true) in
          let j : L.left ≡ suc (L.left - 1) = omega (arith, w.if-left-eq0.false) in
          rw (w.from-is, w.left-is)
          (omega arith, omega (arith, c.loop-k-test.true), refl, rw (j, piece-more 9 s L.from L.k (omega (arith, I.0, I.1)) e c.loop-k-test.true) at I.3)
      | else-x-eq9 w ↦
          rw (w.from-is, w.left-is)
          (omega (arith, I.0), omega (arith, c.loop-k-test.true), omega (arith, I.2, index-miss 9 s L.k c.loop-k-test.true w.if-x-eq9.false), I.3)
    ]

pub returns-then-left-eq0-2 : goal.returns-then-left-eq0-2
returns-then-left-eq0-2 c =
    let s = c.args.line.now in
    let L = c.loop-k in
    let I = L.invariant in
    let e : length s ≡ L.from + index_of 9 (drop L.from s) = omega (arith, I.1, I.2, index-le 9 (drop L.k s), length-drop L.k s, c.loop-k-test.false) in
    sym (piece-first 9 s L.from (length s) (omega (arith, I.0, I.1)) e) ∙ rw c.if-left-eq0-2.true at I.3

pub returns-else-left-eq0-2 : goal.returns-else-left-eq0-2
returns-else-left-eq0-2 c =
    let s = c.args.line.now in
    let L = c.loop-k in
    let I = L.invariant in
    let e : length s ≡ L.from + index_of 9 (drop L.from s) = omega (arith, I.1, I.2, index-le 9 (drop L.k s), length-drop L.k s, c.loop-k-test.false) in
    let j : L.left ≡ suc (L.left - 1) = omega (arith, c.if-left-eq0-2.false) in
    rw (j, piece-last 9 s L.from (length s) (omega (arith, I.0, I.1)) e (omega arith)) at I.3
