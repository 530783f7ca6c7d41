-- Laws of what a step sees: what the laws of the pictures that stand say of it, and which of them are converted. Assumes nothing.
use Prim.Native.Nat.{ℕ, ◌+◌, ◌-◌, ◌*◌}
use mathlib.Core.Path.{◌≡◌, refl, ap, ◌∙◌, fun_ext}
use mathlib.Core.Bool.{true, false, false≢true}
use mathlib.Core.List.{List}
use native.Mathlib.Omega.{arith}
use Rattle.pixel.specs.Bytes.{pixel_at}
use Rattle.pixel.specs.Remap.{remapped}
use Rattle.pixel.specs.Space.{space_maps}
use Rattle.pixel.specs.declared.Space as S
use Rattle.pixel.specs.declared.Space.TheVariants.{Srgb, Linear}
use Rattle.pixel.specs.Convert.{differ?, converted}
use Rattle.pixel.proofs.Converted.{converted-clear, converted-same}
use Rattle.filter.specs.declared.Input.{Input}
use Rattle.filter.specs.declared.Input.TheVariants.{Source, SourceAlpha, Layer}
use Rattle.filter.specs.Rect.{canvas_of}
use Rattle.filter.specs.Picture.{Picture}
use Rattle.filter.specs.Earlier.{AgreeBefore}
use Rattle.filter.specs.Valid.{BlankOutside}
use Rattle.filter.specs.Bytes.{read}
use Rattle.filter.proofs.SeenInSpaces.{seen-picture, seen-alpha}
use Rattle.buffers.specs.declared.Context.{Context}
use Rattle.buffers.specs.declared.RowPart.{RowPart}
use Rattle.buffers.specs.Buffers.{stands, ValidInputs}
use Rattle.buffers.specs.Shown.{spaces_by, spaces_in, as_kept, shown}
use Rattle.buffers.specs.Context.{Drawable, LoadedPart}
use Rattle.buffers.specs.Seen.{converts?}
use Rattle.buffers.specs.Code.{RowConverted}
use Rattle.buffers.proofs.StandingPictures.{stands-blank}

differ-not : (s : S.Space) → differ? s s ≡ false
unfolding differ?
differ-not Srgb = refl
differ-not Linear = refl

module _ (c : Context) (src : List ℕ) where
  -- transparent black stays
  pub shown-blank : (ws : List ℕ) (i : Input) → BlankOutside (canvas_of c.w c.h) (shown c src ws i)
  unfolding shown
  shown-blank ws i = record {
    outside = λ x y o. ap (converted (spaces_in c i) c.space) ((stands-blank c.w c.h src ws i).outside x y o) ∙ converted-clear (spaces_in c i) c.space;
  }

  pub shown-agree : (d d' : List ℕ) → AgreeBefore c.n (stands c.w c.h src d') (stands c.w c.h src d) → AgreeBefore c.n (shown c src d') (shown c src d)
  unfolding shown
  shown-agree d d' A = record { same = λ i l. ap (λ (p : Picture). λ x y. converted (spaces_in c i) c.space (p x y)) (A.same i l) }

  pub shown-valid : (ws : List ℕ) → ValidInputs c.n (stands c.w c.h src ws) → ValidInputs c.n (shown c src ws)
  unfolding shown
  shown-valid ws S = record { valid = λ i l. seen-picture (spaces_in c) c.space (stands c.w c.h src ws) i (S.valid i l) }

  pub drawable-valid : (ws pairs : List ℕ) → Drawable c src ws pairs → ValidInputs c.n (shown c src ws)
  drawable-valid ws pairs D = shown-valid ws D.valid

  -- an input as it is kept
  pub kept-shown : (ws : List ℕ) (i : Input) → shown (as_kept c i) src ws i ≡ stands c.w c.h src ws i
  unfolding shown
  kept-shown ws i = fun_ext λ x. fun_ext λ y. converted-same (spaces_in c i) (spaces_in c i) (stands c.w c.h src ws i x y) (differ-not (spaces_in c i))

  -- an input that is not converted is seen as it stands
  pub shown-own : (ws : List ℕ) (i : Input) → converts? c i ≡ false → shown c src ws i ≡ stands c.w c.h src ws i
  unfolding shown converts? stands spaces_by
  shown-own ws Source e = fun_ext λ x. fun_ext λ y. converted-same (spaces_in c Source) c.space (stands c.w c.h src ws Source x y) e
  shown-own ws SourceAlpha e = seen-alpha (spaces_in c) c.space (stands c.w c.h src ws) SourceAlpha (read c.w c.h src 0) refl
  shown-own ws (Layer k) e = fun_ext λ x. fun_ext λ y. converted-same (spaces_in c (Layer k)) c.space (stands c.w c.h src ws (Layer k) x y) e

  -- one that is, pixel by pixel
  pub shown-other : (ws : List ℕ) (i : Input) → converts? c i ≡ true → (x y : ℕ) → remapped (space_maps c.space) (stands c.w c.h src ws i x y) ≡ shown c src ws i x y
  unfolding shown converts? converted spaces_by
  shown-other ws Source e x y = rw e
  shown-other ws SourceAlpha e x y = absurd (false≢true e)
  shown-other ws (Layer k) e x y = rw e

  -- a row that is brought as it stands, and then converted
  pub loaded-other : (ws : List ℕ) (i : Input) → converts? c i ≡ true → (p : RowPart) (row row₁ row₂ : List ℕ) → LoadedPart (stands c.w c.h src ws i) p row row₁
      → RowConverted c (p.to - p.from) row₁ row₂ → LoadedPart (shown c src ws i) p row row₂
  loaded-other ws i t p row row₁ row₂ P Q = record {
    inside = λ j l m.
        let e : 4 * j ≡ 0 + 4 * j = omega arith in
        Q.inside j l m ∙ ap (λ (k : ℕ). remapped (space_maps c.space) (pixel_at row₁ k)) e
        ∙ ap (remapped (space_maps c.space)) (P.inside j l m) ∙ shown-other ws i t (p.from + j) p.y;
    before = λ k l. Q.before k l ∙ P.before k l;
    after = λ k l. Q.after k l ∙ P.after k l;
    long = Q.long ∙ P.long;
  }
