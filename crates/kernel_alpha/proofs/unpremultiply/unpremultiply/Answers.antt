-- `kernel_alpha::unpremultiply::unpremultiply` meets its contract: the law of the two reciprocals. Assumes nothing.
use mathlib.Core.Path.{◌≡◌}
use Prim.Native.Nat.{◌+◌, ◌*◌, ◌/◌}
use lib.ListN.{get_or}
use native.Mathlib.Omega.{arith}
use Rattle.pixel.specs.Alpha.{unpremultiplied}
use Rattle.pixel.proofs.Premultiplied.{unpremultiplied-byte}
use Rattle.kernel_alpha.proofs.UnpremultiplyByProduct.{unpremultiplied-by-product}
use Rattle.kernel_alpha.proofs.unpremultiply.unpremultiply.Goals as goal

pub returns : goal.returns
returns c =
    let quotient : (c.args.c * get_or c.args.table.now c.args.a 0 + get_or c.args.table.now (c.args.a + 256) 0) / 65536 ≡ unpremultiplied c.args.c c.args.a
    = rw (c.requires.0.scale c.args.a c.ranges.a.fits, c.requires.0.half c.args.a c.ranges.a.fits)
    (unpremultiplied-by-product c.args.c c.args.a c.requires.1 c.ranges.a.fits) in
    (quotient, omega (arith, quotient, unpremultiplied-byte c.args.c c.args.a c.requires.1))
