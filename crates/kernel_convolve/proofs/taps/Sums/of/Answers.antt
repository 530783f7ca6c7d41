-- `kernel_convolve::taps::Sums::of` meets its contract: one tap more in each turn. Assumes nothing.
use Rattle.std.proofs.Common.{take, ◌+◌, ◌++◌, ◌∷◌, [], ◌≡◌, ap, sym, ◌∙◌}
use Rattle.std.proofs.lemmas.List.{take_more}
use Rattle.kernel_convolve.specs.declared.taps.Tap.{Tap}
use Rattle.kernel_convolve.proofs.PlannedRows.{summed-none, summed-more}
use Rattle.kernel_convolve.proofs.taps.Sums.of.Goals as goal

pub loop-tap-init : goal.loop-tap-init
loop-tap-init c = summed-none _ _

pub loop-tap-preserved : goal.loop-tap-preserved
loop-tap-preserved c =
    let L = c.loop-tap in
    let more : take (L.tap-index + 1) c.args.taps.now ≡ take L.tap-index c.args.taps.now ++ c.tap-item.result ∷ []
    = take_more c.args.taps.now L.tap-index c.tap-item.result c.loop-tap-test.true ∙ ap (λ (x : Tap). take L.tap-index c.args.taps.now ++ x ∷ []) (sym c.tap-item.is) in
    rw more (summed-more _ _ _ _ _ _ L.invariant c.with-sums.ensures)
