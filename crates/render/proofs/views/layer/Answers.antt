-- `render::views::layer` meets its contract: the part at the layer's place. Assumes nothing.
use mathlib.Core.Path.{◌≡◌, ap, ◌∙◌}
use Prim.Native.Nat.{ℕ, ◌+◌, ◌-◌}
use native.Mathlib.Omega.{arith}
use lib.ListN.{take, drop}
use Rattle.render.specs.declared.View.{View}
use Rattle.render.specs.View.{part_at}
use Rattle.render.proofs.views.layer.Goals as goal

pub returns : goal.returns
returns c =
    let s = c.args in
    let v = c.view_at-v.result in
    let e = c.view_at-v.ensures.0 in
    let k : v.offset + v.bytes - v.offset ≡ v.bytes = omega arith in
    record { placed = ap (λ (u : View). (s.workspace.ref_ptr.0, u.offset + s.workspace.ref_ptr.1)) e; shown = ap (λ (n : ℕ). take n (drop v.offset s.workspace.now)) k ∙ ap (λ (u : View). part_at u s.workspace.now) e }
