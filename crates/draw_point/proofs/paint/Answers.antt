-- `draw_point::paint` meets its contract: the row of the shape that is known. Assumes nothing.
use Rattle.filter.specs.Kinds.{work_of}
use Rattle.buffers.proofs.RowsFit.{sized-limits}
use Rattle.draw_point.specs.Kindless.{Kindless}
use Rattle.draw_point.proofs.KindlessShapes.{workable-known, kindless-known, drawn-known}
use Rattle.draw_point.proofs.paint.Goals as goal

pub paint_flood-requires : goal.paint_flood-requires
paint_flood-requires c =
    let D = c.requires.workable.0.drawable.readable.sized in
    (sized-limits c.args.context _ _ D, D.workspace, c.requires.workable.2)

pub paint_offset-requires : goal.paint_offset-requires
paint_offset-requires c =
    (workable-known c.args.context _ _ c.in-Offset.is _ _ _ c.requires.workable.0, c.requires.workable.2, c.requires.work_row.0)

pub paint_merge-requires : goal.paint_merge-requires
paint_merge-requires c =
    record { workable = (workable-known c.args.context _ _ c.in-Merge.is _ _ _ c.requires.workable.0, c.requires.workable.2); work_row = c.requires.work_row }

pub returns-in-Pass : goal.returns-in-Pass
unfolding Kindless
returns-in-Pass c =
    absurd (kindless-known c.args.context _ _ c.in-Pass.is c.requires.workable.1)

pub returns-in-Map : goal.returns-in-Map
unfolding Kindless
returns-in-Map c =
    absurd (kindless-known c.args.context _ _ c.in-Map.is c.requires.workable.1)

pub returns-in-Pair : goal.returns-in-Pair
unfolding Kindless
returns-in-Pair c =
    absurd (kindless-known c.args.context _ _ c.in-Pair.is c.requires.workable.1)

pub returns-in-Convolve : goal.returns-in-Convolve
unfolding Kindless
returns-in-Convolve c =
    absurd (kindless-known c.args.context _ _ c.in-Convolve.is c.requires.workable.1)

pub returns-in-Flood : goal.returns-in-Flood
unfolding work_of
returns-in-Flood c =
    drawn-known c.args.context _ _ c.in-Flood.is c.args.part _ _ _ c.paint_flood.ensures

pub returns-in-Offset : goal.returns-in-Offset
returns-in-Offset c =
    drawn-known c.args.context _ _ c.in-Offset.is c.args.part _ _ _ c.paint_offset.ensures.row_drawn

pub returns-in-Merge : goal.returns-in-Merge
returns-in-Merge c =
    drawn-known c.args.context _ _ c.in-Merge.is c.args.part _ _ _ c.paint_merge.ensures.row_drawn
