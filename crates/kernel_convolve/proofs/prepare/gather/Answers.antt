-- `kernel_convolve::prepare::gather` meets its contract: one tap more in each turn. Assumes nothing.
use Rattle.std.proofs.Common.{ℕ, ◌-◌, ◌<◌, length, ◌≡◌, ap, ◌∙◌, arith}
use Rattle.std.proofs.lemmas.List.{take_more_set}
use Rattle.kernel_lines.specs.Convolved.{value_at}
use Rattle.kernel_convolve.specs.Code.{part_of, turned}
use Rattle.kernel_convolve.proofs.GatheredTaps.{gathered_none, gathered-more, gathered-same}
use Rattle.kernel_convolve.proofs.prepare.gather.Goals as goal
use Rattle.kernel_convolve.proofs.prepare.gather.Goals.{then-weight-gt0, else-weight-gt0}

pub loop-t-init : goal.loop-t-init
loop-t-init c = record { gathered = gathered_none _ _ _; fewer = omega arith }

pub loop-t-preserved : goal.loop-t-preserved
loop-t-preserved c =
    let k = c.args.kernel.now in
    let L = c.loop-t in
    let weight : c.part-weight.result ≡ turned k.convolution k.values c.args.below L.t
    = c.part-weight.ensures ∙ ap (λ (m : ℕ). part_of c.args.below (value_at k.values (m - 1 - L.t))) c.cells-cells.ensures.0 in
    let h : L.n < length L.room = omega (arith, c.cells-cells.ensures.2) in
    elim c.if-weight-gt0.branch [
      | then-weight-gt0 w ↦ record {
        gathered = rw (w.room-is, w.n-is, take_more_set) (gathered-more _ _ _ L.t _ L.invariant.gathered _ weight w.offset-offset.ensures.0);
        fewer = omega arith;
      }
      | else-weight-gt0 w ↦ record {
        gathered = rw (w.room-is, w.n-is) (gathered-same _ _ _ L.t _ L.invariant.gathered (omega arith));
        fewer = omega arith;
      }
    ]
