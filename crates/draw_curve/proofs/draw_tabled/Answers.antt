-- The tables find each kept pixel seen and remapped. Assumes nothing.
use Rattle.std.proofs.Common.{rules, ap, ◌∙◌}
use Rattle.pixel.specs.declared.Pixel.{Pixel}
use Rattle.pixel.specs.Remap.{remapped}
use Rattle.kernel_remap.specs.Remaps.{maps_in}
use Rattle.filter.specs.Picture.{Picture}
use Rattle.buffers.proofs.DrawnRows.{drawn-new}
use Rattle.buffers.proofs.ShownInputs.{kept-shown}
use Rattle.draw_curve.specs.Code.{seen_as}
use Rattle.draw_curve.proofs.Curved.{seen_as_is, tables-found, tabled-row}
use Rattle.draw_curve.proofs.draw_tabled.Goals as goal

pub map_rows-requires-clause-maps : goal.map_rows-requires-clause-maps
map_rows-requires-clause-maps c =
    let a = c.args in
    let T = tables-found a.context a.input _ _ _ c.requires.maps_len.2 c.prepare_maps.ensures in
    (λ p. remapped (maps_in a.maps.now) (seen_as a.context a.input p), λ src dst n dst' L e. tabled-row a.context a.input _ _ _ _ _ _ T L (search rules))

pub returns : goal.returns
returns c =
    let a = c.args in
    let f : Pixel → Pixel = λ p. remapped (maps_in a.maps.now) (seen_as a.context a.input p) in
    let T = tables-found a.context a.input _ _ _ c.requires.maps_len.2 c.prepare_maps.ensures in
    drawn-new _ _ _ _ _ _ _ _
    (λ x y i. ap (λ (q : Picture). f (q x y)) (kept-shown a.context a.source.now a.workspace.now a.input) ∙ ap (remapped (maps_in a.maps.now)) (seen_as_is a.context _ _ a.input x y))
    (rw c.as_kept-kept.ensures at (c.map_rows.ensures f (λ src dst n dst' L e. tabled-row a.context a.input _ _ _ _ _ _ T L (search rules))))
