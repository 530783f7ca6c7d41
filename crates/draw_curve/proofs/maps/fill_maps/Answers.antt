-- `draw_curve::maps::fill_maps` meets its contract: four maps, one after another. Assumes nothing.
use native.Mathlib.Omega.{arith}
use Rattle.filter.specs.Kinds.{curve_maps}
use Rattle.draw_curve.proofs.Transfers.{transfers-counted, values-allowed, first-few, second-few, third-few}
use Rattle.draw_curve.proofs.MapsFilled.{maps-held}
use Rattle.draw_curve.proofs.maps.fill_maps.Goals as goal

pub fill_map-requires : goal.fill_map-requires
fill_map-requires c =
    let t = c.args.transfers in
    ((transfers-counted t c.requires.0).r, values-allowed t _ c.requires.1, omega arith, omega (arith, c.requires.2))

pub fill_map-requires-2 : goal.fill_map-requires-2
fill_map-requires-2 c =
    let t = c.args.transfers in
    ((transfers-counted t c.requires.0).g, values-allowed t _ c.requires.1, rw c.curve_numbers-numbers.ensures (first-few t), omega (arith, c.requires.2, c.fill_map.ensures.long))

pub fill_map-requires-3 : goal.fill_map-requires-3
fill_map-requires-3 c =
    let t = c.args.transfers in
    ((transfers-counted t c.requires.0).b, values-allowed t _ c.requires.1, rw c.curve_numbers-numbers.ensures (second-few t), omega (arith, c.requires.2, c.fill_map-2.ensures.long, c.fill_map.ensures.long))

pub fill_map-requires-4 : goal.fill_map-requires-4
fill_map-requires-4 c =
    let t = c.args.transfers in
    ((transfers-counted t c.requires.0).a, values-allowed t _ c.requires.1, rw c.curve_numbers-numbers.ensures (third-few t), omega (arith, c.requires.2, c.fill_map-3.ensures.long, c.fill_map-2.ensures.long, c.fill_map.ensures.long))

pub returns : goal.returns
returns c =
    maps-held (curve_maps c.args.transfers c.args.values) _ _ _ _ _ c.requires.2 c.fill_map.ensures
    (rw c.curve_numbers-numbers.ensures at c.fill_map-2.ensures)
    (rw c.curve_numbers-numbers.ensures at c.fill_map-3.ensures)
    (rw c.curve_numbers-numbers.ensures at c.fill_map-4.ensures)
