-- The kernel reads the row that the step sees. Assumes nothing.
use Rattle.std.proofs.Common.{rules, ◌≡◌, ◌-◌, ◌*◌, ℕ, ◌+◌, List, MutBor, refl, ap, take, drop}
use Rattle.pixel.specs.Bytes.{pixel_at}
use Rattle.buffers.specs.Shown.{shown}
use Rattle.buffers.proofs.LoadedRows.{loaded-pixel, painted-into}
use Rattle.buffers.proofs.KernelRows.{lent-fits, lent-row}
use Rattle.buffers.proofs.rows.map_part.Goals as goal

pub kernel-requires : goal.kernel-requires
kernel-requires g c =
    let a = c.args in
    let R = c.requires.drawable in
    let n : ℕ = a.part.to - a.part.from in
    let lo : ℕ = c.start-lo.result in
    let takes : (dst : MutBor (List ℕ)) → dst.now ≡ take (lo + 4 * n - lo) (drop lo a.workspace.now) → goal.F-pre g a.kernel.now c.see-seen.result dst n =
    λ dst e. c.requires.takes _ dst _ (rw e (lent-row a.context a.part _ _ _ R.0 R.2 lo c.start-lo.ensures.from_bound.0 a.input _ R.1 c.see-seen.ensures)) in
    search rules

pub returns : goal.returns
returns g c = λ f M.
    let a = c.args in
    let R = c.requires.drawable in
    let p = shown a.context a.source.now a.workspace.now a.input in
    let lo : ℕ = c.start-lo.result in
    let ends = c.start-lo.ensures.from_bound.0 in
    painted-into lo (a.part.to - a.part.from) a.workspace.now (lent-fits a.context a.part _ _ _ R.0 R.2 lo ends) (λ x. f (pixel_at c.see-seen.result.now (4 * x))) _ _ _ _ _ c.start-lo.ensures.value refl R.2.order
    (λ j l. ap f (loaded-pixel p a.part.y a.part.from a.part.to _ _ c.see-seen.ensures.held j l))
    (M _ _ _ _ (lent-row a.context a.part _ _ _ R.0 R.2 lo ends a.input _ R.1 c.see-seen.ensures) c.kernel.ensures)
