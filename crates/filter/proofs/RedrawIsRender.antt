-- Demand 3 on pictures, over any effects that depend only on what they say they read. Assumes nothing.
use Prim.Native.Nat.{ℕ, zero, suc, ◌<◌}
use mathlib.Core.Path.{◌≡◌, refl, sym, ◌∙◌, ap}
use mathlib.Core.Bool.{Bool, true, false, cond}
use mathlib.Core.List.{List, [], ◌∷◌}
use native.Mathlib.Omega.{arith}
use lib.Dec.{eqb}
use Rattle.pixel.specs.declared.Pixel.{Pixel}
use Rattle.filter.specs.declared.Rect.{Rect}
use Rattle.filter.specs.declared.Input.{Input}
use Rattle.filter.specs.declared.Input.TheVariants.{Source, SourceAlpha, Layer}
use Rattle.filter.specs.Rect.{In}
use Rattle.filter.specs.Picture.{Picture, alpha_of, patch}
use Rattle.filter.specs.Effect.{Env, Read, Effect, AgreeWithin, Local}
use Rattle.filter.specs.Layers.{replaced, initial, changed, reached, bounds, result, damage, rendered, damages, redrawn}
use Rattle.filter.proofs.PlacesInRects.{in?, in-join-left, in-join-right, in-grow}
use Rattle.filter.proofs.Patches.{patch-in, patch-out, patch-all, replaced-chain}

-- F and G differ inside z only
abbrev pub AgreeOutside : (Input → Rect) → Env → Env → Type 0
AgreeOutside z F G = (i : Input) (x y : ℕ) → ¬ In (z i) x y → F i x y ≡ G i x y

agree-within : (is : List Read) (z : Input → Rect) (F G : Env) → AgreeOutside z F G → (x y : ℕ) → ¬ In (reached is z) x y → AgreeWithin is F G x y
unfolding reached
agree-within [] z F G w x y h = tt
agree-within (i ∷ is) z F G w x y h = (
  λ u v s. w i.input u v (λ t. h (in-join-left _ _ (in-grow i.reach s t))),
  agree-within is z F G w x y (λ t. h (in-join-right _ _ t)),
)

-- one step: its layers differ inside its redraw rectangle only
pub result-outside : (canvas : Rect) (e : Effect) → Local e → (z : Input → Rect) (F G : Env) → AgreeOutside z F G → (x y : ℕ)
    → ¬ In (damage canvas e z) x y → result canvas e F x y ≡ result canvas e G x y
result-outside canvas e l z F G w x y h = go (in? (bounds canvas e) x y)
  where
    go : Dec (In (bounds canvas e) x y) → result canvas e F x y ≡ result canvas e G x y
    go (yes f) = patch-in _ _ _ f ∙ l F G x y (agree-within e.reads z F G w x y (λ t. h (record { left = omega arith; right = omega arith; top = omega arith; bottom = omega arith }))) ∙ sym (patch-in _ _ _ f)
    go (no f) = patch-out _ _ _ f ∙ sym (patch-out _ _ _ f)

replaced-outside : (n : ℕ) (z : Input → Rect) (F G : Env) → AgreeOutside z F G → (r : Rect) (p q : Picture)
    → ((x y : ℕ) → ¬ In r x y → p x y ≡ q x y) → AgreeOutside (replaced n z r) (replaced n F p) (replaced n G q)
unfolding replaced
replaced-outside n z F G w r p q h Source x y = w Source x y
replaced-outside n z F G w r p q h SourceAlpha x y = w SourceAlpha x y
replaced-outside n z F G w r p q h (Layer k) x y = go (eqb k n)
  where
    go : (b : Bool) → ¬ In (cond b r (z (Layer k))) x y → cond b p (F (Layer k)) x y ≡ cond b q (G (Layer k)) x y
    go true = h x y
    go false = w (Layer k) x y

initial-outside : (r : Rect) (p q : Picture) → ((x y : ℕ) → ¬ In r x y → p x y ≡ q x y) → AgreeOutside (changed r) (initial p) (initial q)
unfolding changed initial
initial-outside r p q h Source x y t = h x y t
initial-outside r p q h SourceAlpha x y t = ap (λ (c : Pixel). alpha_of (λ u v. c) x y) (h x y t)
initial-outside r p q h (Layer k) x y t = refl

-- what each definition puts at layer k
module _ (canvas : Rect) (effects : ℕ → Effect) where
  pub rendered-layer : (src : Picture) (k n : ℕ) → k < n
      → rendered canvas effects src n (Layer k) ≡ result canvas (effects k) (rendered canvas effects src k)
  unfolding rendered
  rendered-layer src = replaced-chain (rendered canvas effects src) (λ k. result canvas (effects k) (rendered canvas effects src k)) (λ k. refl)

  pub damages-layer : (r : Rect) (k n : ℕ) → k < n → damages canvas effects r n (Layer k) ≡ damage canvas (effects k) (damages canvas effects r k)
  unfolding damages
  damages-layer r = replaced-chain (damages canvas effects r) (λ k. damage canvas (effects k) (damages canvas effects r k)) (λ k. refl)

  pub redrawn-layer : (r : Rect) (old : ℕ → Picture) (src : Picture) (k n : ℕ) → k < n
      → redrawn canvas effects r old src n (Layer k) ≡ patch (damage canvas (effects k) (damages canvas effects r k)) (result canvas (effects k) (redrawn canvas effects r old src k)) (old k)
  unfolding redrawn
  redrawn-layer r old src =
      replaced-chain (redrawn canvas effects r old src)
      (λ k. patch (damage canvas (effects k) (damages canvas effects r k)) (result canvas (effects k) (redrawn canvas effects r old src k)) (old k)) (λ k. refl)

  -- whatever the old layers were: outside its rectangle a layer keeps what it held
  pub redrawn-outside : (r : Rect) (old : ℕ → Picture) (src : Picture) (k n : ℕ) → k < n → (x y : ℕ)
      → ¬ In (damages canvas effects r n (Layer k)) x y → redrawn canvas effects r old src n (Layer k) x y ≡ old k x y
  redrawn-outside r old src k n l x y h = ap (λ (p : Picture). p x y) (redrawn-layer r old src k n l) ∙ patch-out _ _ _ (rw (damages-layer r k n l) at h)

  -- a redraw takes the old layers of its own steps only
  pub redrawn-same : (r : Rect) (p q : ℕ → Picture) (src : Picture) (n : ℕ) → ((k : ℕ) → k < n → p k ≡ q k)
      → redrawn canvas effects r p src n ≡ redrawn canvas effects r q src n
  unfolding redrawn
  redrawn-same r p q src zero h = refl
  redrawn-same r p q src (suc n) h = rw (redrawn-same r p q src n (λ k l. h k (omega arith)), h n (omega arith))

-- two pictures that agree outside the rectangle r
module _ (canvas : Rect) (effects : ℕ → Effect) (locals : (n : ℕ) → Local (effects n)) (r : Rect) (old new : Picture) (same : (x y : ℕ) → ¬ In r x y → old x y ≡ new x y) where
  -- their layers differ inside the redraw rectangles only
  pub rendered-outside : (n : ℕ) → AgreeOutside (damages canvas effects r n) (rendered canvas effects old n) (rendered canvas effects new n)
  unfolding damages rendered
  rendered-outside zero = initial-outside r old new same
  rendered-outside (suc n) = replaced-outside n _ _ _ (rendered-outside n) _ _ _ (result-outside canvas (effects n) (locals n) _ _ _ (rendered-outside n))

  redraws : (n : ℕ) → redrawn canvas effects r (λ k. result canvas (effects k) (rendered canvas effects old k)) new n ≡ rendered canvas effects new n
  unfolding redrawn rendered
  redraws zero = refl
  redraws (suc n) = rw (redraws n) (ap (replaced n (rendered canvas effects new n)) (patch-all _ _ _ (result-outside canvas (effects n) (locals n) _ _ _ (rendered-outside n))))

  -- demand 3: redrawing the layers of the old picture gives the layers of the new one
  pub redraw-is-render : (count : ℕ)
      → redrawn canvas effects r (λ k. rendered canvas effects old count (Layer k)) new count ≡ rendered canvas effects new count
  redraw-is-render count = redrawn-same canvas effects r _ _ new count (λ k l. rendered-layer canvas effects old k count l) ∙ redraws count
