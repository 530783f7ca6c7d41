-- What working spaces alter of a step: how its inputs are seen, place by place; not how far it looks, nor which part is redrawn. Assumes nothing.
use Prim.Native.Nat.{ℕ}
use mathlib.Core.Path.{◌≡◌, refl, ◌∙◌, sym, ap, fun_ext}
use mathlib.Core.List.{List, [], ◌∷◌}
use Rattle.pixel.specs.declared.Pixel.{Pixel}
use Rattle.pixel.specs.declared.Space as S
use Rattle.pixel.specs.declared.Space.TheVariants.{Srgb, Linear}
use Rattle.pixel.specs.Convert.{differ?, converted}
use Rattle.pixel.proofs.Converted.{converted-valid, converted-bytes, converted-alpha, converted-same}
use Rattle.filter.specs.declared.Input.{Input}
use Rattle.filter.specs.declared.Rect.{Rect}
use Rattle.filter.specs.declared.Step.{Step}
use Rattle.filter.specs.Rect.{canvas_of}
use Rattle.filter.specs.Picture.{Picture, alpha_of}
use Rattle.filter.specs.Effect.{Env, Read, AgreeWithin}
use Rattle.filter.specs.Layers.{damage}
use Rattle.filter.specs.Sheets.{seen, effect_of}
use Rattle.filter.specs.Valid.{ValidPicture, ValidReads}

converted-own : (s : S.Space) (p : Pixel) → converted s s p ≡ p
unfolding differ?
converted-own Srgb p = converted-same Srgb Srgb p refl
converted-own Linear p = converted-same Linear Linear p refl

module _ (spaces : Input → S.Space) (s : S.Space) where
  pub seen-within : (is : List Read) (E F : Env) (x y : ℕ) → AgreeWithin is E F x y → AgreeWithin is (seen spaces s E) (seen spaces s F) x y
  seen-within [] E F x y a = tt
  seen-within (i ∷ is) E F x y a = (λ u v r. ap (converted _ _) (a.0 u v r), seen-within is E F x y a.1)

  pub seen-picture : (E : Env) (i : Input) → ValidPicture (E i) → ValidPicture (seen spaces s E i)
  seen-picture E i v = record {
    bytes = λ x y. converted-bytes _ _ _ (v.valid x y) (v.bytes x y);
    valid = λ x y. converted-valid _ _ _ (v.valid x y);
  }

  pub seen-valid : (is : List Read) (E : Env) → ValidReads is E → ValidReads is (seen spaces s E)
  seen-valid [] E v = tt
  seen-valid (i ∷ is) E v = (seen-picture E i.input v.0, seen-valid is E v.1)

  -- an input of the step's own space is seen as it stands
  pub seen-own : (E : Env) (i : Input) → spaces i ≡ s → seen spaces s E i ≡ E i
  seen-own E i e = fun_ext λ x. fun_ext λ y. rw e (converted-own s (E i x y))

  -- and so is an alpha, in every space
  pub seen-alpha : (E : Env) (i : Input) (p : Picture) → E i ≡ alpha_of p → seen spaces s E i ≡ E i
  seen-alpha E i p e = fun_ext λ x. fun_ext λ y. ap (converted _ _) (at x y) ∙ converted-alpha _ _ (p x y).a ∙ sym (at x y)
    where
      at : (x y : ℕ) → E i x y ≡ alpha_of p x y
      at x y = ap (λ (q : Picture). q x y) e

-- where all inputs are kept in the step's space, spaces alter nothing
pub seen_same : (spaces : Input → S.Space) (s : S.Space) (E : Env) → ((i : Input) → spaces i ≡ s) → seen spaces s E ≡ E
seen_same spaces s E h = fun_ext λ i. seen-own spaces s E i (h i)

-- a step's redraw rectangle is the same in whatever spaces its inputs are kept
pub damage-spaces : (w h : ℕ) (spaces spaces' : Input → S.Space) (s : Step) (z : Input → Rect)
    → damage (canvas_of w h) (effect_of w h spaces s) z ≡ damage (canvas_of w h) (effect_of w h spaces' s) z
unfolding effect_of
damage-spaces w h spaces spaces' s z = refl
