-- The row of the input that is copied is the row of the picture that stands there. Assumes nothing.
use Rattle.std.proofs.Common.{arith}
use Rattle.buffers.proofs.RowStarts.{loaded-source, loaded-alpha, loaded-layer}
use Rattle.buffers.proofs.copy_row.Goals as goal

pub returns-in-Source : goal.returns-in-Source
returns-in-Source c =
    loaded-source _ _ _ c.args.workspace.now _ _ _ _ _ c.requires.sized.1.high c.requires.sized.1.wide _ c.args.input c.in-Source.is (omega arith) c.copy_pixels.ensures

pub returns-in-SourceAlpha : goal.returns-in-SourceAlpha
returns-in-SourceAlpha c =
    loaded-alpha _ _ _ c.args.workspace.now _ _ _ _ _ c.requires.sized.1.high c.requires.sized.1.wide _ c.args.input c.in-SourceAlpha.is (omega arith) c.alpha_part.ensures

pub returns-in-Layer : goal.returns-in-Layer
returns-in-Layer c =
    loaded-layer _ _ c.args.source.now _ _ _ _ _ _ c.requires.sized.1.high c.requires.sized.1.wide _ _ c.args.input c.in-Layer.is (omega arith) c.copy_pixels-in-Layer.ensures
