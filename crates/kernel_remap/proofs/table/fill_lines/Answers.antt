-- `kernel_remap::table::fill_lines` meets its contract: one line more in each turn. Assumes nothing.
use mathlib.Core.List.{[]}
use Prim.Native.Nat.{◌+◌, ◌*◌}
use lib.ListN.{length, take}
use Rattle.std.proofs.Common.{length-take-le}
use mathlib.Core.Path.{◌≡◌, refl, ◌∙◌}
use native.Mathlib.Omega.{arith}
use Rattle.kernel_remap.proofs.TableLines.{begun_more, line-pair}
use Rattle.kernel_remap.proofs.table.fill_lines.Goals as goal

pub loop-a-preserved : goal.loop-a-preserved
loop-a-preserved c =
    let L = c.loop-a in
    let S = c.fill_unpremultiplied.ensures in
    let n : length (take (L.a + 1) c.fill_unpremultiplied.new.line) ≡ L.a + 1 = length-take-le (L.a + 1) _ (omega (arith, S.long, L.invariant.2)) in
    let F = rw n at c.fill_line.ensures in (
      omega arith,
      omega arith,
      S.long ∙ L.invariant.2,
      F.long ∙ L.invariant.3,
      begun_more _ _ L.a _ _ (omega arith) (λ k l. line-pair _ [] _ _ _ (256 * L.a) L.a k refl c.requires.0 l S) L.invariant.4 F,
    )
