-- What the buffers give to step n, in a render as in a redraw: the inputs as they stand after the steps before it. Assumes nothing.
use Prim.Native.Nat.{ℕ, suc, ◌≤◌, ◌<◌}
use mathlib.Core.Path.{◌≡◌, refl, sym, ap, ap₂, ◌∙◌}
use mathlib.Core.Bool.{true}
use mathlib.Core.List.{List}
use native.Mathlib.Omega.{arith}
use lib.ListN.{length}
use borrow.Author.Tests.{ltb-true}
use Rattle.window.proofs.Numbers.{line-end}
use Rattle.pixel.specs.declared.Space.{Space}
use Rattle.pixel.specs.Convert.{converted}
use Rattle.filter.specs.declared.Input.{Input}
use Rattle.filter.specs.declared.Input.TheVariants.{Source, SourceAlpha, Layer}
use Rattle.filter.specs.declared.Step.{Step}
use Rattle.filter.specs.Rect.{canvas_of}
use Rattle.filter.specs.Picture.{Picture, blank, patch}
use Rattle.filter.specs.Effect.{Env}
use Rattle.filter.specs.Kinds.{reads}
use Rattle.filter.specs.Layers.{replaced, initial, bounds, result}
use Rattle.filter.specs.Steps.{shaped, values_of}
use Rattle.filter.specs.Sheets.{seen, effect_of}
use Rattle.filter.specs.Bytes.{size, read}
use Rattle.filter.specs.Checks.{allowed?}
use Rattle.filter.specs.Earlier.{Earlier, AgreeBefore}
use Rattle.filter.proofs.Earlier.{replaced-stays}
use Rattle.buffers.specs.Buffers.{stands, Sized}
use Rattle.buffers.proofs.WorkAgrees.{work-same}
use Rattle.buffers.proofs.FirstLayers.{FirstLayers}
use Rattle.layers.specs.Ready.{Ready}

-- E after each step, where step m puts a m at its layer
module _ (w h : ℕ) (src : List ℕ) (E : ℕ → Env) (a : ℕ → Picture) (first : E 0 ≡ initial (read w h src 0)) (chain : (m : ℕ) → E (suc m) ≡ replaced m (E m) (a m)) where
  pub first-layers-agree : (n count : ℕ) → n ≤ count → (d : List ℕ) → FirstLayers w h n (λ k. E count (Layer k)) d → AgreeBefore n (stands w h src d) (E n)
  unfolding stands initial
  first-layers-agree n count l d U = record { same = go }
    where
      go : (i : Input) → allowed? n i ≡ true → stands w h src d i ≡ E n i
      go Source t = sym (replaced-stays E a chain 0 n (omega arith) Source refl ∙ ap (λ (F : Env). F Source) first)
      go SourceAlpha t = sym (replaced-stays E a chain 0 n (omega arith) SourceAlpha refl ∙ ap (λ (F : Env). F SourceAlpha) first)
      go (Layer k) t = U.each k (ltb-true k n t) ∙ replaced-stays E a chain n count l (Layer k) t

-- inputs that are the same, kept in the same spaces, are seen as the same
seen-agree : (n : ℕ) (S T : Input → Space) (s : Space) (E F : Env) → ((i : Input) → allowed? n i ≡ true → S i ≡ T i) → AgreeBefore n E F
    → AgreeBefore n (seen S s E) (seen T s F)
seen-agree n S T s E F k a = record {
  same = λ i l. ap₂ (λ (t : Space) (p : Picture). λ x y. converted t s (p x y)) (k i l) (a.same i l);
}

-- a step's layer comes from what it may read
pub result-same : (w h n : ℕ) (s : Step) (S T : Input → Space) (E F : Env) → Earlier n (reads w h (shaped s)) → ((i : Input) → allowed? n i ≡ true → S i ≡ T i)
    → AgreeBefore n E F → result (canvas_of w h) (effect_of w h S s) E ≡ result (canvas_of w h) (effect_of w h T s) F
unfolding effect_of
result-same w h n s S T E F e k a =
    ap (λ (p : Picture). patch (bounds (canvas_of w h) (effect_of w h S s)) p blank) (work-same w h n (shaped s) (values_of s) _ _ e (seen-agree n S T s.space E F k a))

-- there is room for each layer
pub ready-sized : (w h : ℕ) (steps : List Step) (count : ℕ) (src ws scr : List ℕ) → Ready w h steps count src ws scr
    → (n : ℕ) → n < count → (d : List ℕ) → length d ≡ length ws → Sized w h n src d
ready-sized w h steps count src ws scr R n l d e = record {
  wide = R.sheet.canvas.wide;
  high = R.sheet.canvas.high;
  steps = omega (arith, R.sheet.few);
  source = R.source;
  workspace = omega (arith, R.workspace, line-end (size w h) count n l);
}
