-- Laws of parts of inputs that are copied as they stand, or read in the source. Assumes nothing.
use Prim.Native.Nat.{ℕ, ◌+◌, ◌-◌, ◌*◌}
use mathlib.Core.Path.{◌≡◌, refl, sym, subst, ◌∙◌}
use mathlib.Core.Bool.{Bool, true, false, false≢true}
use mathlib.Core.List.{List}
use native.Mathlib.Omega.{arith}
use lib.ListN.{length, take, drop, length-drop}
use lib.Seq.{length-take-le}
use borrow.Author.Tests.{not-true}
use Rattle.pixel.specs.Bytes.{pixel_at, Painted}
use Rattle.pixel.proofs.PaintedRows.{pixel-part}
use Rattle.filter.specs.declared.Input.{Input}
use Rattle.filter.specs.declared.Input.TheVariants.{Source, SourceAlpha, Layer}
use Rattle.filter.specs.Bytes.{size}
use Rattle.buffers.specs.declared.Context.{Context}
use Rattle.buffers.specs.declared.RowPart.{RowPart}
use Rattle.buffers.specs.Buffers.{stands}
use Rattle.buffers.specs.Shown.{shown}
use Rattle.buffers.specs.Context.{OnRow, LoadedPart}
use Rattle.buffers.specs.Seen.{converts?, lies?, stays?, HeldIf, CopiedIf, Seen}
use Rattle.buffers.proofs.RowsFit.{row_ends}
use Rattle.buffers.proofs.RowStarts.{loaded-source}
use Rattle.buffers.proofs.LoadedRows.{loaded-stays, loaded-then}
use Rattle.buffers.proofs.ShownInputs.{shown-own}

module _ (c : Context) where
  pub stays-own : (i : Input) → stays? c i ≡ true → converts? c i ≡ false
  unfolding stays?
  stays-own Source e = absurd (false≢true e)
  stays-own SourceAlpha e = absurd (false≢true e)
  stays-own (Layer k) e = not-true _ e

  pub lies-own : (i : Input) → lies? c i ≡ true → (i ≡ Source) × (converts? c i ≡ false)
  unfolding lies?
  lies-own Source e = (refl, not-true _ e)
  lies-own SourceAlpha e = absurd (false≢true e)
  lies-own (Layer k) e = absurd (false≢true e)

  module _ (i : Input) (p : RowPart) (src ws : List ℕ) where
    -- a copy of what stands there, where nothing is converted
    pub copied-own : (b : Bool) (row row' : List ℕ) → b ≡ true → converts? c i ≡ false → LoadedPart (stands c.w c.h src ws i) p row row' → CopiedIf b c i p src ws row row'
    copied-own b row row' t o L = record {
      copied = λ _. rw (shown-own c src ws i o) L;
      kept = λ f. absurd (false≢true (sym f ∙ t));
      long = L.long;
    }

    -- what was copied is there
    pub held : (b : Bool) (row row' : List ℕ) → CopiedIf b c i p src ws row row' → HeldIf b c i p src ws row'
    held b row row' C t = loaded-stays (shown c src ws i) p.y p.from p.to row row' (C.copied t) (shown c src ws i) (λ x. refl)

    -- and the rest is brought after it
    pub copied-loaded : (b : Bool) (row row₁ row₂ : List ℕ) → CopiedIf b c i p src ws row row₁ → LoadedPart (shown c src ws i) p row₁ row₂ → LoadedPart (shown c src ws i) p row row₂
    copied-loaded true row row₁ row₂ C L = loaded-then (shown c src ws i) p.y p.from p.to row row₁ (C.copied refl) (shown c src ws i) row₂ L
    copied-loaded false row row₁ row₂ C L = subst (λ (d : List ℕ). LoadedPart (shown c src ws i) p d row₂) (C.kept refl) L

    -- the source's own bytes
    pub seen-source : (a k : ℕ) → lies? c i ≡ true → OnRow c p → length src ≡ size c.w c.h → a ≡ 4 * (p.y * c.w + p.from) → k ≡ 4 * (p.to - p.from)
        → Seen (shown c src ws i) p (take k (drop a src))
    seen-source a k l R s ea ek =
        let o = lies-own i l in
        let ends = row_ends c.w c.h p.y R.high in
        let part : List ℕ = take k (drop a src) in
        let long : length part ≡ k = length-take-le k (drop a src) (simp length-drop (omega (arith, ends, R.order, R.wide))) in
        let P : Painted (λ x. pixel_at src (4 * (p.y * c.w + p.from + (x - 0)))) 0 0 (p.to - p.from) part part = record {
          inside = λ x m n. pixel-part src a k (0 + 4 * x) (4 * (p.y * c.w + p.from + (x - 0))) (omega arith) (omega arith);
          before = λ j m. refl;
          after = λ j m. refl;
          long = refl;
        } in
        record {
          long = long ∙ ek;
          held = rw (shown-own c src ws i o.1) (loaded-source _ _ _ ws _ _ _ _ _ R.high R.wide (p.y * c.w + p.from) i o.0 (omega arith) P);
        }
