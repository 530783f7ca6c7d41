-- One step: from what is drawn in its layer, which a full render clears around the region, to the picture that stands there. Assumes nothing.
use mathlib.Core.Path.{◌≡◌, sym, ap, ◌∙◌}
use mathlib.Core.List.{List}
use Prim.Native.Nat.{ℕ, ◌*◌}
use native.Mathlib.Omega.{arith}
use lib.ListN.{length}
use Rattle.pixel.specs.Alpha.{clear}
use Rattle.filter.specs.declared.Rect.{Rect}
use Rattle.filter.specs.declared.Resolved.{Resolved}
use Rattle.filter.specs.Rect.{In, canvas_of, meet}
use Rattle.filter.specs.Picture.{Picture, blank, patch}
use Rattle.filter.specs.Kinds.{reads}
use Rattle.filter.specs.Earlier.{Earlier, AgreeBefore}
use Rattle.filter.specs.Bytes.{size, read}
use Rattle.filter.specs.Accepted.{Within}
use Rattle.filter.proofs.PlacesInRects.{in?}
use Rattle.filter.proofs.Patches.{patch-out, patch-all}
use Rattle.filter.proofs.ReadPictures.{read-blank, read-pixel}
use Rattle.buffers.specs.Buffers.{stands, Sized}
use Rattle.buffers.specs.declared.Context.{Context}
use Rattle.buffers.specs.Shown.{shown}
use Rattle.buffers.specs.Context.{StepDrawn}
use Rattle.buffers.proofs.StandingPictures.{read_same}
use Rattle.buffers.proofs.DrawnRows.{drawn-here, drawn-other}
use Rattle.buffers.proofs.DrawnAgrees.{others-agree}
use Rattle.buffers.proofs.ShownInputs.{shown-agree}
use Rattle.buffers.proofs.PatchCut.{patch-cut, on-canvas}
use Rattle.buffers.proofs.WorkAgrees.{work-same}
use Rattle.draw.specs.ClearedAround.{ClearedAround}
use Rattle.layers.specs.InContext.{layer_in, RectInside, ContextRendered, ContextRedrawn}

module _ (w h n : ℕ) (r : Rect) (d d' : List ℕ) (C : ClearedAround w h n r d d') where
  cleared-other : (k : ℕ) → ¬ (k ≡ n) → read w h d' (k * size w h) ≡ read w h d (k * size w h)
  cleared-other k ne = read_same w h d' d (k * size w h) (λ x y. C.others k x y ne)

  cleared-here : (x y : ℕ) → ¬ In r x y → read w h d' (n * size w h) x y ≡ clear
  cleared-here x y o = go (in? (canvas_of w h) x y)
    where
      go : Dec (In (canvas_of w h) x y) → read w h d' (n * size w h) x y ≡ clear
      go (yes c) = read-pixel w h d' (n * size w h) x y (omega arith) (omega arith) ∙ C.outside x y (omega arith) (omega arith) o
      go (no c) = (read-blank w h d' (n * size w h)).outside x y c

  -- what step n may read stays
  pub cleared-agree : (src : List ℕ) → AgreeBefore n (stands w h src d') (stands w h src d)
  cleared-agree src = others-agree w h n src d d' cleared-other

pub sized_same : (w h n : ℕ) (src d d' : List ℕ) → length d' ≡ length d → Sized w h n src d → Sized w h n src d'
sized_same w h n src d d' e S =
    record { wide = S.wide; high = S.high; steps = S.steps; source = S.source; workspace = rw e S.workspace }

module _ (c : Context) (s : Resolved) (region : Rect) (src : List ℕ) where
  pub render-replaces : (d d₁ d₂ : List ℕ) → Earlier c.n (reads c.w c.h s.shape) → Within c.w c.h region → ClearedAround c.w c.h c.n region d d₁
      → StepDrawn c s region src d₁ d₂ → ContextRendered c s region src d d₂
  unfolding shown
  render-replaces d d₁ d₂ e W C D =
      let old : Picture = read c.w c.h d₁ (c.n * size c.w c.h) in
      record {
        here =
            drawn-here c.w c.h c.n region _ d₁ d₂ D W.right W.bottom
            ∙ ap (λ (p : Picture). patch region p old) (work-same c.w c.h c.n s.shape s.values _ _ e (shown-agree c src d d₁ (cleared-agree c.w c.h c.n region d d₁ C src)))
            ∙ patch-cut region (meet (canvas_of c.w c.h) region) _ blank old (on-canvas c.w c.h region W.right W.bottom)
            ∙ patch-all region (layer_in c s region src d) old (λ x y o. cleared-here c.w c.h c.n region d d₁ C x y o ∙ sym (patch-out _ _ _ (λ i. o (record { left = omega (arith, i.left); right = omega (arith, i.right); top = omega (arith, i.top); bottom = omega (arith, i.bottom) }))));
        others = λ k ne. drawn-other c.w c.h c.n region _ d₁ d₂ D k ne ∙ cleared-other c.w c.h c.n region d d₁ C k ne;
        long = D.long ∙ C.long;
      }

  pub redraw-replaces : (r : Rect) (d d' : List ℕ) → RectInside c region r
      → StepDrawn c s r src d d' → ContextRedrawn c s region r src d d'
  unfolding shown
  redraw-replaces r d d' I D = record {
    here = drawn-here c.w c.h c.n r _ d d' D I.within.right I.within.bottom ∙ patch-cut r _ _ _ _ I.inside;
    others = drawn-other c.w c.h c.n r _ d d' D;
    long = D.long;
  }
