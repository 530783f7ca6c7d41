-- `draw_convolve::draw_convolve` meets its contract. Assumes nothing.
use Rattle.filter.specs.Picture.{Picture}
use Rattle.buffers.specs.Shown.{shown}
use Rattle.buffers.proofs.ShownInputs.{shown-blank}
use Rattle.draw_convolve.proofs.ConvolvedRows.{convolve-drawn}
use Rattle.draw_convolve.proofs.draw_convolve.Goals as goal

pub returns-clause-convolve_drawn : goal.returns-clause-convolve_drawn
returns-clause-convolve_drawn c =
    let a = c.args in
    let g : Picture = shown a.context a.source.now a.workspace.now a.input in
    convolve-drawn a.context a.convolution a.values a.input a.rect a.source.now a.workspace.now _ c.requires.divides.1
    (c.paint_rows.ensures g (record {
      from = c.rows_read-rows.result.from;
      to = c.rows_read-rows.result.to;
      blank = shown-blank a.context a.source.now a.workspace.now a.input;
      staged = c.stage.ensures.0;
      read = c.rows_read-rows.ensures;
    }))
