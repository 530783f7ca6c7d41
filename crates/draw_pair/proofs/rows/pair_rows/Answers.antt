-- Each turn draws one row more, worked from inputs that the rows before left alone. Assumes nothing.
use Rattle.window.specs.Limits.{longest_row}
use Rattle.std.proofs.Common.{rules, ◌≡◌, ◌+◌, ◌-◌, ◌*◌, ℕ, List, MutBor, length, take, drop, refl, arith, length-take, length-append, length-drop}
use mathlib.Core.Path.{ap₂}
use Rattle.pixel.specs.Bytes.{pixel_at}
use Rattle.pixel.proofs.PaintedRows.{painted-as}
use Rattle.filter.specs.Picture.{Picture}
use Rattle.buffers.specs.declared.RowPart.{RowPart}
use Rattle.buffers.specs.Drawn.{band}
use Rattle.buffers.specs.Shown.{shown}
use Rattle.buffers.specs.Context.{OnRow}
use Rattle.buffers.proofs.AfterDrawing.{drawable-later, input-later}
use Rattle.buffers.proofs.DrawnRows.{drawn-none, drawn-all, drawn-more}
use Rattle.buffers.proofs.KernelRows.{lent-fits, lent-row}
use Rattle.buffers.proofs.LoadedRows.{loaded-pixel, painted-into}
use Rattle.draw_pair.specs.Pair.{PairDrawn}
use Rattle.draw_pair.proofs.rows.pair_rows.Goals as goal

pub loop-y-init : goal.loop-y-init
loop-y-init g c = (omega arith, omega arith, λ h M. drawn-none _ _ _ _ _ _ (λ x y i. absurd (omega (arith, i.top, i.bottom))), refl, refl)

pub kernel-requires : goal.kernel-requires
kernel-requires g c =
    let a = c.args in
    let L = c.loop-y in
    let W = c.requires.within in
    let rows = band a.rect.left a.rect.right a.rect.top L.y in
    let part : RowPart = record { y = L.y; from = a.rect.left; to = a.rect.right } in
    let n : ℕ = a.rect.right - a.rect.left in
    let lo : ℕ = c.start-lo.result in
    let drawn : PairDrawn a.context c.requires.gives.0 a.i a.j rows a.source.now a.workspace.now L.workspace = L.invariant.2 c.requires.gives.0 c.requires.gives.1 in
    let D = drawable-later a.context rows _ a.source.now a.workspace.now L.workspace a.pairs.now drawn c.requires.drawable in
    let R : OnRow a.context part = record { high = omega (arith, W.0.bottom); order = W.1; wide = W.0.right } in
    let one = lent-row a.context part _ _ _ D R lo c.start-lo.ensures.from_bound.0 a.i _ c.requires.i_value.0 c.see-first.ensures in
    let two = lent-row a.context part _ _ _ D R lo c.start-lo.ensures.from_bound.0 a.j _ c.requires.i_value.1 c.see-second.ensures in
    let long : (row : List ℕ) → length row ≡ longest_row → length (take (4 * n) row) ≡ 4 * n = λ row e. simp length-take (omega (arith, W.0.right, D.readable.sized.wide)) in
    let takes : (f g' dst : MutBor (List ℕ)) → f.now ≡ take (4 * n) L.f → g'.now ≡ take (4 * n) L.g → dst.now ≡ take (lo + 4 * n - lo) (drop lo L.workspace) → goal.F-pre g a.kernel c.see-first.result c.see-second.result f g' dst n =
    λ f g' dst ef eg e. c.requires.takes _ _ f g' dst _ (rw e one) (rw e two) (rw ef (long L.f L.invariant.3)) (rw eg (long L.g L.invariant.4)) in
    search rules

pub loop-y-preserved : goal.loop-y-preserved
loop-y-preserved g c =
    let a = c.args in
    let L = c.loop-y in
    let I = L.invariant in
    let W = c.requires.within in
    let rows = band a.rect.left a.rect.right a.rect.top L.y in
    let part : RowPart = record { y = L.y; from = a.rect.left; to = a.rect.right } in
    let n : ℕ = a.rect.right - a.rect.left in
    let lo : ℕ = c.start-lo.result in
    let ends = c.start-lo.ensures.from_bound.0 in
    let drawn : PairDrawn a.context c.requires.gives.0 a.i a.j rows a.source.now a.workspace.now L.workspace = I.2 c.requires.gives.0 c.requires.gives.1 in
    let D = drawable-later a.context rows _ a.source.now a.workspace.now L.workspace a.pairs.now drawn c.requires.drawable in
    let R : OnRow a.context part = record { high = omega (arith, W.0.bottom); order = W.1; wide = W.0.right } in
    let p = shown a.context a.source.now L.workspace a.i in
    let q = shown a.context a.source.now L.workspace a.j in
    let same = input-later a.context rows _ a.source.now a.workspace.now L.workspace drawn in (
      omega (arith, I.0),
      omega (arith, I.1),
      λ h M.
          drawn-more _ _ _ _ _ _ _ _ _ _ _ (I.2 h M)
          (painted-as _ _ _ _ _ _ _ (λ x l m. ap₂ (λ (u v : Picture). h (u x L.y) (v x L.y)) (same a.i c.requires.i_value.0) (same a.j c.requires.i_value.1))
          (painted-into lo n L.workspace (lent-fits a.context part _ _ _ D R lo ends)
          (λ x. h (pixel_at c.see-first.result.now (4 * x)) (pixel_at c.see-second.result.now (4 * x))) (λ x. h (p x L.y) (q x L.y)) _ _ _ _ c.start-lo.ensures.value refl W.1
          (λ j l. ap₂ h (loaded-pixel p L.y a.rect.left a.rect.right _ _ c.see-first.ensures.held j l) (loaded-pixel q L.y a.rect.left a.rect.right _ _ c.see-second.ensures.held j l))
          (M _ _ _ _ _ _ _ _ _ (lent-row a.context part _ _ _ D R lo ends a.i _ c.requires.i_value.0 c.see-first.ensures) (lent-row a.context part _ _ _ D R lo ends a.j _ c.requires.i_value.1 c.see-second.ensures) c.kernel.ensures)))
          I.0 W.1 W.0.right (omega (arith, W.0.bottom)),
      simp (length-append, length-drop) (omega (arith, c.kernel.auto.arg4, length-take (4 * n) L.f, D.readable.sized.wide, W.0.right, I.3)),
      simp (length-append, length-drop) (omega (arith, c.kernel.auto.arg5, length-take (4 * n) L.g, D.readable.sized.wide, W.0.right, I.4)),
    )

pub returns : goal.returns
returns g c = λ h M. drawn-all _ _ _ c.args.rect _ _ _ _ c.loop-y.invariant.1 (omega arith) (c.loop-y.invariant.2 h M)
