-- `capi::twillgoose_layer` meets its contract. Assumes nothing.
use mathlib.Core.Path.{ap}
use Rattle.render.specs.declared.View.{View}
use Rattle.capi.proofs.twillgoose_layer.Goals as goal

pub returns : goal.returns
returns c =
    record { long = ap (λ (v : View). v.bytes) c.view_at-v.ensures.0; offset = ap (λ (v : View). v.offset) c.view_at-v.ensures.0 }
