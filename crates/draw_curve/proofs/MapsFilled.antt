-- Four maps, filled one after another; and maps that hold the same bytes remap alike. Assumes nothing.
use Prim.Native.Nat.{ℕ, ◌+◌, ◌-◌}
use mathlib.Core.Path.{◌≡◌, ap, ap₂, ◌∙◌}
use mathlib.Core.List.{List}
use native.Mathlib.Omega.{arith}
use lib.ListN.{length}
use Rattle.window.specs.Store.{Filled}
use Rattle.pixel.specs.declared.Pixel.{Pixel}
use Rattle.pixel.specs.Alpha.{Valid, Bytes, premultiplied}
use Rattle.pixel.specs.Remap.{Maps, remapped}
use Rattle.pixel.proofs.PaintedRows.{pixel-is}
use Rattle.pixel.proofs.Premultiplied.{unpremultiplied-byte}
use Rattle.kernel_remap.specs.Remaps.{maps_in}
use Rattle.draw_curve.specs.Curve.{HoldsMaps}

module _ (f : Maps) (m₀ m₁ m₂ m₃ m₄ : List ℕ) (long : length m₀ ≡ 1024)
    (R : Filled (λ i. f.r (i - 0)) 0 256 m₀ m₁) (G : Filled (λ i. f.g (i - 256)) 256 512 m₁ m₂)
    (K : Filled (λ i. f.b (i - 512)) 512 768 m₂ m₃) (A : Filled (λ i. f.a (i - 768)) 768 1024 m₃ m₄) where
  pub maps-held : HoldsMaps f m₄
  maps-held = record {
    long = A.long ∙ K.long ∙ G.long ∙ R.long ∙ long;
    r = λ c l.
        let e : c - 0 ≡ c = omega arith in
        A.before c (omega arith) ∙ K.before c (omega arith) ∙ G.before c (omega arith) ∙ R.inside c (omega arith) l ∙ ap f.r e;
    g = λ c l.
        let e : 256 + c - 256 ≡ c = omega arith in
        A.before (256 + c) (omega arith) ∙ K.before (256 + c) (omega arith) ∙ G.inside (256 + c) (omega arith) (omega arith) ∙ ap f.g e;
    b = λ c l.
        let e : 512 + c - 512 ≡ c = omega arith in
        A.before (512 + c) (omega arith) ∙ K.inside (512 + c) (omega arith) (omega arith) ∙ ap f.b e;
    a = λ c l.
        let e : 768 + c - 768 ≡ c = omega arith in
        A.inside (768 + c) (omega arith) (omega arith) ∙ ap f.a e;
  }

-- a valid pixel of bytes is remapped by bytes
pub remapped-held : (f : Maps) (maps : List ℕ) → HoldsMaps f maps → (p : Pixel) → Valid p → Bytes p → remapped (maps_in maps) p ≡ remapped f p
unfolding remapped
remapped-held f maps H p v b =
    let alpha = H.a p.a b.a in
    pixel-is _ _
    (ap₂ premultiplied (H.r _ (unpremultiplied-byte p.r p.a v.r)) alpha)
    (ap₂ premultiplied (H.g _ (unpremultiplied-byte p.g p.a v.g)) alpha)
    (ap₂ premultiplied (H.b _ (unpremultiplied-byte p.b p.a v.b)) alpha)
    alpha
