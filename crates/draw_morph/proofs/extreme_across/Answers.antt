-- `draw_morph::extreme_across` meets its contract: each turn adds one row to the strip. Assumes nothing.
use mathlib.Core.Path.{refl, ◌∙◌}
use native.Mathlib.Omega.{arith}
use Rattle.buffers.proofs.ShownInputs.{shown-blank}
use Rattle.draw_window.proofs.StripRows.{strip-painted}
use Rattle.draw_window.proofs.BandIsEnough.{band-row}
use Rattle.draw_morph.proofs.ExtremeBanded.{extremes-banded}
use Rattle.draw_morph.proofs.extreme_across.Goals as goal

pub loop-y-preserved : goal.loop-y-preserved
loop-y-preserved c =
    let a = c.args in
    let R = c.looked_at-span.ensures in
    let L = c.loop-y in
    let G = c.load_line.ensures in
    let P = c.extreme_row.ensures in
    record {
      long = P.long ∙ L.invariant.long;
      rows = strip-painted _ _ _ _ _ _ _ _ _ (omega arith) refl L.invariant.rows P
          (λ x l m. band-row _ _ _ _ _ _ (shown-blank a.context a.source.now a.workspace.now a.input) (extremes-banded a.op a.back a.ahead) _ _ _ _ _ _ _ R c.requires.strip_on.0.wide G x _ l m);
    }
