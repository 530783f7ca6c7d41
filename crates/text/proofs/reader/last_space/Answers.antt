-- `text::reader::last_space` meets its contract. The loop keeps that the line of its number begins at `at`. Assumes nothing.
use mathlib.Core.Path.{sym, ap, ◌∙◌}
use Prim.Native.Nat.{ℕ}
use native.Mathlib.Omega.{arith}
use Rattle.text.specs.Reading.{line_at, line_after}
use Rattle.text.proofs.Stepped.{step-inside, line-next, line-none}
use Rattle.text.proofs.reader.last_space.Goals as goal

pub loop-line-init : goal.loop-line-init
loop-line-init c = sym (line-none c.args.text.now c.args.from)

pub line_after-at-requires : goal.line_after-at-requires
line_after-at-requires c =
    step-inside c.args.form c.args.text.now c.loop-line._line _ (omega (arith, c.requires))
    (c.loop-line.invariant ∙ ap (λ (k : ℕ). line_at c.args.text.now k c.loop-line._line) c.requires.2)

pub loop-line-preserved : goal.loop-line-preserved
loop-line-preserved c =
    let t = c.args.text.now in
    c.line_after-at.ensures ∙ ap (line_after t) c.loop-line.invariant ∙ sym (line-next t c.args.from c.loop-line._line)
