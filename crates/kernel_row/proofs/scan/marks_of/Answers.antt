-- `kernel_row::scan::marks_of` meets its contract: R and B, then G and A, are taken from the alpha. Assumes nothing.
use Rattle.std.proofs.Common.{◌/◌, ◌%◌, arith}
use Rattle.pixel.specs.Word.{unpacked}
use Rattle.kernel_row.proofs.Marks.{marked-halves, marked-pixel}
use Rattle.kernel_row.proofs.scan.marks_of.Goals as goal

pub returns : goal.returns
returns c =
    let v = c.args.v in
    let a = v / 16777216 in
    marked-pixel (unpacked v) _ _
    (marked-halves a (v % 256) (v / 65536 % 256) (omega arith) (omega arith) (omega arith))
    (marked-halves a (v / 256 % 256) a (omega arith) (omega arith) (omega arith))
