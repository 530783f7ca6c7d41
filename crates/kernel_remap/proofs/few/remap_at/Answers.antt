-- `kernel_remap::few::remap_at` meets its contract: each colour by its map and the new alpha. Assumes nothing.
use mathlib.Core.Path.{◌≡◌, refl, ◌∙◌, ap}
use Prim.Native.Nat.{ℕ, ◌+◌}
use lib.ListN.{get_or}
use native.Mathlib.Omega.{arith}
use Rattle.pixel.specs.Alpha.{premultiplied, unpremultiplied}
use Rattle.pixel.specs.Bytes.{pixel_at}
use Rattle.pixel.specs.Remap.{remapped}
use Rattle.pixel.proofs.PaintedRows.{pixel-is}
use Rattle.kernel_remap.specs.Remaps.{maps_in}
use Rattle.kernel_remap.proofs.Remaps.{packed-as}
use Rattle.kernel_remap.proofs.few.remap_at.Goals as goal

pub returns : goal.returns
unfolding remapped
returns c =
    let s = c.args in
    let p = pixel_at s.src.now s.i in
    let b = get_or s.maps.now (768 + p.a) 0 in
    let first : 0 + unpremultiplied p.r p.a ≡ unpremultiplied p.r p.a = omega arith in
    packed-as _ (remapped (maps_in s.maps.now) p) _
    (pixel-is _ (remapped (maps_in s.maps.now) p)
    (c.remap_color.ensures ∙ ap (λ (u : ℕ). premultiplied (get_or s.maps.now u 0) b) first) c.remap_color-2.ensures c.remap_color-3.ensures refl)
    c.pack.ensures
