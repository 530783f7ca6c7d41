-- `draw_point::merge::paint_merge` meets its contract: the stacked row is stored. Assumes nothing.
use Rattle.filter.specs.Kinds.{work_of}
use Rattle.buffers.specs.Shown.{shown}
use Rattle.buffers.proofs.LoadedRows.{painted-stored}
use Rattle.draw_point.specs.RowDrawn.{stack_of}
use Rattle.draw_point.proofs.merge.paint_merge.Goals as goal

pub returns : goal.returns
unfolding work_of
returns c =
    let a = c.args in
    let p = stack_of (shown a.context a.source.now a.workspace.now) a.inputs a.count in
    record {
      row_drawn = painted-stored p a.part.y a.part.from a.part.to _ _ c.stack.ensures _ _ _ c.store.ensures;
      work_buffer = (record { long = c.stack.auto.a }, record { long = c.stack.auto.g });
      work_buffer_2 = record { long = c.stack.ensures.long };
    }
