-- `render::settling::check_contents` meets its contract: the source, then the workspace. Assumes nothing.
use Rattle.std.proofs.Common.{sym, ap, ◌∙◌, ℕ}
use native.Mathlib.Nat.{mul_left_comm}
use Rattle.filter.specs.Answers.{accepted?}
use Rattle.filter.specs.Checks.{pixels_answer}
use Rattle.render.proofs.settling.check_contents.Goals as goal

pub returns-in-Redraw : goal.returns-in-Redraw
unfolding accepted?
returns-in-Redraw c =
    let s = c.args in
    let first = sym c.check_pixels.ensures ∙ c.in_ok-check_pixels.was in
    rw (c.in-Redraw.is, first) (c.check_pixels-in-Redraw.ensures ∙ ap (λ (n : ℕ). pixels_answer s.workspace.now n) (mul_left_comm s.w s.count s.h))
