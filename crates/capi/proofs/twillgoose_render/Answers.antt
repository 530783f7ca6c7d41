-- `capi::twillgoose_render` meets its contract: number, place and buffers are those of the answer by value. Assumes nothing.
use mathlib.Core.Path.{ap}
use Rattle.capi.specs.declared.Redrawing.{Redrawing}
use Rattle.capi.specs.Lines.{replied, number_for, place_for}
use Rattle.capi.proofs.twillgoose_render.Goals as goal

pub returns : goal.returns
unfolding number_for place_for replied
returns c =
    let e = c.call_lines-rendered.ensures in
    record {
      number = ap (λ (x : Redrawing). x.number) e.answers;
      place = ap (λ (x : Redrawing). x.place) e.answers;
      layers = e.layers;
      cleared = e.cleared;
      valid = e.valid;
    }
