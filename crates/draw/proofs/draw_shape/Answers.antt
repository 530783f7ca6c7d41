-- `draw::draw_shape` meets its contract: the shape that the step is known to have is drawn. Assumes nothing.
use mathlib.Core.Path.{refl}
use Rattle.filter.specs.Kinds.{work_of, reads}
use Rattle.filter.specs.Accepted.{Measured, Numbered}
use Rattle.buffers.specs.Shown.{shown}
use Rattle.draw_point.proofs.KindlessShapes.{kindless-values}
use Rattle.draw.proofs.ShapeKnown.{others-kindless, checked-known, drawn-known}
use Rattle.draw.proofs.draw_shape.Goals as goal

pub draw_pass-requires : goal.draw_pass-requires
unfolding Measured reads
draw_pass-requires c =
    let f = checked-known _ _ c.in-Pass.is c.args.context.w c.args.context.h c.args.context.n c.args.step.values c.requires.earlier.0 c.requires.earlier.1.shape c.requires.earlier.1.values in
    record { readable = (c.requires.drawable.0.readable, c.requires.drawable.1); input_value = (f.0.0, f.1.0, f.1.1, c.requires.earlier.2) }

pub draw_map-requires : goal.draw_map-requires
unfolding Measured Numbered reads
draw_map-requires c =
    let f = checked-known _ _ c.in-Map.is c.args.context.w c.args.context.h c.args.context.n c.args.step.values c.requires.earlier.0 c.requires.earlier.1.shape c.requires.earlier.1.values in
    record { drawable = (c.requires.drawable.0, f.0.0); map_value = (f.1, f.2, c.requires.earlier.2) }

pub draw_pair-requires : goal.draw_pair-requires
unfolding Numbered reads
draw_pair-requires c =
    let f = checked-known _ _ c.in-Pair.is c.args.context.w c.args.context.h c.args.context.n c.args.step.values c.requires.earlier.0 c.requires.earlier.1.shape c.requires.earlier.1.values in
    record { drawable = (c.requires.drawable.0, f.2); i_value = (f.0.0, f.0.1.0, c.requires.earlier.2) }

pub draw_convolve-requires : goal.draw_convolve-requires
unfolding Measured Numbered reads
draw_convolve-requires c =
    let f = checked-known _ _ c.in-Convolve.is c.args.context.w c.args.context.h c.args.context.n c.args.step.values c.requires.earlier.0 c.requires.earlier.1.shape c.requires.earlier.1.values in
    record { drawable = c.requires.drawable; input_value = (f.0.0, f.1, f.2.0); divides = (f.2.1, c.requires.earlier.2) }

pub draw_rows-requires : goal.draw_rows-requires
draw_rows-requires c =
    record { drawable = (c.requires.drawable.0, c.requires.earlier.0, c.requires.earlier.1.shape, others-kindless c.args.step.shape c.in_default.not-Pass c.in_default.not-Map c.in_default.not-Pair c.in_default.not-Convolve); within = c.requires.earlier.2 }

pub returns-in-Pass : goal.returns-in-Pass
unfolding work_of
returns-in-Pass c =
    let a = c.args in
    record { step_drawn = drawn-known _ _ c.in-Pass.is a.context a.step.values (shown a.context a.src.now a.ws.now) _ _ _ c.draw_pass.ensures.pass_drawn; work_buffer = c.draw_pass.ensures.work_buffer }

pub returns-in-Map : goal.returns-in-Map
unfolding work_of
returns-in-Map c =
    let a = c.args in
    record { step_drawn = drawn-known _ _ c.in-Map.is a.context a.step.values (shown a.context a.src.now a.ws.now) _ _ _ c.draw_map.ensures; work_buffer = record { long = refl } }

pub returns-in-Pair : goal.returns-in-Pair
unfolding work_of
returns-in-Pair c =
    let a = c.args in
    record { step_drawn = drawn-known _ _ c.in-Pair.is a.context a.step.values (shown a.context a.src.now a.ws.now) _ _ _ c.draw_pair.ensures; work_buffer = record { long = refl } }

pub returns-in-Convolve : goal.returns-in-Convolve
returns-in-Convolve c =
    let a = c.args in
    record { step_drawn = drawn-known _ _ c.in-Convolve.is a.context a.step.values (shown a.context a.src.now a.ws.now) _ _ _ c.draw_convolve.ensures.convolve_drawn; work_buffer = c.draw_convolve.ensures.work_buffer }

pub returns-in_default : goal.returns-in_default
returns-in_default c =
    let a = c.args in
    let q = others-kindless a.step.shape c.in_default.not-Pass c.in_default.not-Map c.in_default.not-Pair c.in_default.not-Convolve in
    record { step_drawn = rw (kindless-values a.context.w a.context.h a.step.shape a.step.values (shown a.context a.src.now a.ws.now) q) c.draw_rows.ensures; work_buffer = record { long = refl } }
