-- `render::settling::settle` meets its contract: what the checks of the sizes let pass is what the last check asks. Assumes nothing.
use Rattle.std.proofs.Common.{◌≡◌, true, refl, sym, ap, ◌∙◌}
use Rattle.filter.specs.Answers.{Answer, accepted?}
use Rattle.checks.proofs.Acceptance.{accepted-sizes}
use Rattle.render.proofs.settling.settle.Goals as goal

pub check_contents-requires : goal.check_contents-requires
unfolding accepted?
check_contents-requires c =
    let passed : accepted? c.check_sizes.result ≡ true = rw c.in_ok-check_sizes.was refl in
    let k = accepted-sizes _ _ _ _ _ _ (ap (λ (a : Answer). accepted? a) (sym c.check_sizes.ensures) ∙ passed) in
    (k.few, k.canvas.high, k.source_is, k.workspace_is)
