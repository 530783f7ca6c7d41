-- `pixel::convert::convert_pair` meets its contract. A colour above its alpha lies past the table. Assumes nothing.
use Prim.Native.Nat.{◌≤◌, ◌<◌}
use mathlib.Core.Path.{sym}
use native.Mathlib.Omega.{arith}
use Rattle.pixel.proofs.Premultiplied.{unpremultiplied-is, unpremultiplied-byte}
use Rattle.pixel.proofs.Converted.{pair-zero, pair-above}
use Rattle.pixel.proofs.convert.convert_pair.Goals as goal

pub returns-then-c-eq0 : goal.returns-then-c-eq0
returns-then-c-eq0 c = sym (rw c.if-c-eq0.true (pair-zero c.args.to c.args.a))

pub returns-then-a-c : goal.returns-then-a-c
returns-then-a-c c = sym (pair-above c.args.to c.args.c c.args.a c.if-a-c.true (omega arith))

pub overflow_cast-u-4 : goal.overflow_cast-u-4
overflow_cast-u-4 c =
    let some : 0 < c.args.a = omega arith in
    let most : c.args.c ≤ c.args.a = omega arith in
    record { fits = rw (unpremultiplied-is c.args.c c.args.a some) at (unpremultiplied-byte c.args.c c.args.a most) }

pub returns : goal.returns
returns c =
    let some : 0 < c.args.a = omega arith in
    rw (unpremultiplied-is c.args.c c.args.a some, sym c.entry.ensures) c.premultiply.ensures.0

-- no goal: div-u : tie.Need-nonzero-div-u
-- div-u c = search rules
