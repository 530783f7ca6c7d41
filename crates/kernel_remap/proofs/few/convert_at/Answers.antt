-- `kernel_remap::few::convert_at` meets its contract: each colour by its pair with the alpha. Assumes nothing.
use mathlib.Core.Path.{refl}
use Rattle.pixel.specs.Bytes.{pixel_at}
use Rattle.pixel.specs.Remap.{remapped}
use Rattle.pixel.specs.Space.{space_maps}
use Rattle.pixel.proofs.PaintedRows.{pixel-is}
use Rattle.kernel_remap.proofs.few.convert_at.Goals as goal

pub returns : goal.returns
unfolding remapped
returns c =
    let e = pixel-is _ (remapped (space_maps c.args.to) (pixel_at c.args.row.now c.args.i))
    c.convert_pair.ensures c.convert_pair-2.ensures c.convert_pair-3.ensures refl in
    rw e at c.pack.ensures
