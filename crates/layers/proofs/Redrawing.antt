-- The loop of a redraw: after n steps the first n layers are redrawn, the others as they were. Assumes nothing.
use Prim.Native.Nat.{ℕ, ◌+◌, ◌*◌, ◌≤◌, ◌<◌}
use mathlib.Core.Path.{◌≡◌, refl, sym, ap, ap₂, ◌∙◌}
use mathlib.Core.Bool.{true}
use mathlib.Core.List.{List}
use native.Mathlib.Omega.{arith}
use lib.ListN.{length}
use Rattle.filter.specs.declared.Rect.{Rect}
use Rattle.pixel.specs.declared.Space.{Space}
use Rattle.filter.specs.declared.Input.{Input}
use Rattle.filter.specs.declared.Step.{Step}
use Rattle.filter.specs.Rect.{canvas_of}
use Rattle.filter.specs.Picture.{Picture, patch}
use Rattle.filter.specs.Effect.{Env, Effect}
use Rattle.filter.specs.Layers.{result, damage, damages, redrawn}
use Rattle.filter.specs.Steps.{step_at}
use Rattle.filter.specs.Sheets.{space_of, effect_of, effects_of}
use Rattle.filter.specs.Bytes.{size, read, Holds, redrawn_of}
use Rattle.filter.specs.Checks.{allowed?}
use Rattle.filter.specs.Earlier.{AgreeBefore}
use Rattle.filter.specs.Valid.{FloodBytes}
use Rattle.filter.proofs.RedrawIsRender.{redrawn-layer}
use Rattle.filter.proofs.Validity.{step-valid}
use Rattle.filter.proofs.ValidLayers.{redrawn-valid}
use Rattle.buffers.specs.Buffers.{stands}
use Rattle.buffers.specs.LayerReplaced.{LayerReplaced}
use Rattle.buffers.proofs.DrawnAgrees.{valid-agree}
use Rattle.buffers.proofs.FirstLayers.{FirstLayers, first-layers-none, first-layers-more, first-layers-hold}
use Rattle.layers.specs.Ready.{Ready, ValidLayers}
use Rattle.layers.specs.Next.{StepReady}
use Rattle.layers.proofs.StandingInputs.{first-layers-agree, result-same, ready-sized}

module _ (w h : ℕ) (steps : List Step) (count : ℕ) (r : Rect) (src ws scr : List ℕ) where
  -- what holds after n steps
  pub record Redrawing (n : ℕ) (d s : List ℕ) : Type 0 where
    pub long : length d ≡ length ws
    pub scratch : length s ≡ length scr
    pub done : FirstLayers w h n (redrawn_of w h steps count r ws src) d
    pub rest : (k : ℕ) → n ≤ k → read w h d (k * size w h) ≡ read w h ws (k * size w h)

  pub redrawing-none : Redrawing 0 ws scr
  redrawing-none = record { long = refl; scratch = refl; done = first-layers-none w h _ ws; rest = λ k l. refl }

  -- after the last step
  pub redrawing-holds : (d s : List ℕ) → length ws ≡ count * size w h → Redrawing count d s → Holds w h count d (redrawn_of w h steps count r ws src)
  redrawing-holds d s e G = first-layers-hold w h count _ d (G.long ∙ e) G.done

  abbrev effects : ℕ → Effect
  effects = effects_of w h steps

  abbrev old : ℕ → Picture
  old k = read w h ws (k * size w h)

  -- what stands after n steps
  abbrev after : ℕ → Env
  after = redrawn (canvas_of w h) effects r old (read w h src 0)

  -- one more step, in its rectangle
  module _ (R : Ready w h steps count src ws scr) (n : ℕ) (l : n < count) (d s : List ℕ) (G : Redrawing n d s)
      (step : Step) (is : step ≡ step_at steps n) where
    agree : AgreeBefore n (stands w h src d) (after n)
    unfolding redrawn
    agree = first-layers-agree w h src after (λ k. patch (damage (canvas_of w h) (effects k) (damages (canvas_of w h) effects r k)) (result (canvas_of w h) (effects k) (after k)) (old k)) refl (λ m. refl) n count (omega arith) d G.done

    pub redrawing-ready : ((k : ℕ) → k < count → FloodBytes (step_at steps k).kind) → ValidLayers w h count ws → StepReady w h n step src d s
    redrawing-ready floods olds = record {
      sized = ready-sized w h steps count src ws scr R n l d G.long;
      scratch = G.scratch ∙ R.scratch;
      inputs =
          valid-agree n _ _ agree
          (record { valid = λ i t. redrawn-valid (canvas_of w h) effects (read w h src 0) R.valid r old n (λ m q. step-valid w h (space_of steps) (step_at steps m) (floods m (omega arith))) (λ m q. olds.valid m (omega arith)) i });
      accepted = rw is (R.sheet.each n l);
    }

    pub redrawing-more : (spaces : Input → Space) → ((i : Input) → allowed? n i ≡ true → spaces i ≡ space_of steps i) → (rect : Rect) → rect ≡ damage (canvas_of w h) (effects n) (damages (canvas_of w h) effects r n) → (d' s' : List ℕ)
        → LayerReplaced w h n (patch rect (result (canvas_of w h) (effect_of w h spaces step) (stands w h src d)) (read w h d (n * size w h))) d d'
        → length s' ≡ length s → Redrawing (n + 1) d' s'
    redrawing-more spaces known rect rect-is d' s' T e = record {
      long = T.long ∙ G.long;
      scratch = e ∙ G.scratch;
      done = first-layers-more w h n _ _ d d' layer-is G.done T;
      rest = λ k m. T.others k (omega arith) ∙ G.rest k (omega arith);
    }
      where
        result-is : result (canvas_of w h) (effect_of w h spaces step) (stands w h src d) ≡ result (canvas_of w h) (effects n) (after n)
        result-is =
            ap (λ (x : Step). result (canvas_of w h) (effect_of w h spaces x) (stands w h src d)) is
            ∙ result-same w h n (step_at steps n) spaces (space_of steps) _ _ (R.sheet.each n l).inputs known agree

        layer-is : patch rect (result (canvas_of w h) (effect_of w h spaces step) (stands w h src d)) (read w h d (n * size w h)) ≡ redrawn_of w h steps count r ws src n
        layer-is =
            ap₂ (λ (q : Rect) (p : Picture). patch q p (read w h d (n * size w h))) rect-is result-is
            ∙ ap (patch (damage (canvas_of w h) (effects n) (damages (canvas_of w h) effects r n)) (result (canvas_of w h) (effects n) (after n))) (G.rest n (omega arith))
            ∙ sym (redrawn-layer (canvas_of w h) effects r old (read w h src 0) n count l)
