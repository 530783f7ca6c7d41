-- `kernel_composite::factor::factors` meets its contract: one pixel's factor more in each turn. Assumes nothing.
use mathlib.Core.Path.{refl, ap, ◌∙◌}
use Prim.Native.Nat.{◌*◌, ◌/◌}
use native.Mathlib.Omega.{arith}
use Rattle.pixel.specs.Bytes.{pixel_at}
use Rattle.pixel.proofs.PackedPixels.{packed-alpha}
use Rattle.kernel_composite.specs.Factors.{alpha_in}
use Rattle.kernel_composite.proofs.FactorWords.{factor-more}
use Rattle.kernel_composite.proofs.factor.factors.Goals as goal

pub loop-x-preserved : goal.loop-x-preserved
loop-x-preserved g c =
    let L = c.loop-x in
    let a = c.args.a.now in (
      omega arith,
      λ φ h. factor-more (λ x. φ (alpha_in a x)) c.factor-t.result _ (4 * L.x) L.x _ _ _ refl refl
          (h _ _ (omega arith) c.factor-t.ensures ∙ ap φ (packed-alpha (pixel_at a (4 * L.x)) _ c.word.ensures)) (c.requires.small (c.word.result / 16777216) _ (omega arith) c.factor-t.ensures) (L.invariant.1 φ h) c.put.ensures,
    )
