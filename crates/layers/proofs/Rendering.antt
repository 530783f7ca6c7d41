-- The loop of a full render: after n steps the first n layers of the sheet stand in the workspace. Assumes nothing.
use Prim.Native.Nat.{ℕ, ◌+◌, ◌*◌, ◌<◌}
use mathlib.Core.Path.{◌≡◌, refl, sym, ap, ◌∙◌}
use mathlib.Core.Bool.{true}
use mathlib.Core.List.{List}
use native.Mathlib.Omega.{arith}
use lib.ListN.{length}
use Rattle.pixel.specs.declared.Space.{Space}
use Rattle.filter.specs.declared.Input.{Input}
use Rattle.filter.specs.declared.Step.{Step}
use Rattle.filter.specs.Rect.{canvas_of}
use Rattle.filter.specs.Effect.{Env, Effect}
use Rattle.filter.specs.Layers.{result, rendered}
use Rattle.filter.specs.Steps.{step_at}
use Rattle.filter.specs.Sheets.{space_of, effect_of, effects_of}
use Rattle.filter.specs.Bytes.{size, read, Holds, layers_of}
use Rattle.filter.specs.Checks.{allowed?}
use Rattle.filter.specs.Earlier.{AgreeBefore}
use Rattle.filter.specs.Valid.{FloodBytes}
use Rattle.filter.proofs.RedrawIsRender.{rendered-layer}
use Rattle.filter.proofs.Validity.{step-valid}
use Rattle.filter.proofs.ValidLayers.{rendered-valid}
use Rattle.buffers.specs.Buffers.{stands}
use Rattle.buffers.specs.LayerReplaced.{LayerReplaced}
use Rattle.buffers.proofs.DrawnAgrees.{valid-agree}
use Rattle.buffers.proofs.FirstLayers.{FirstLayers, first-layers-none, first-layers-more, first-layers-hold}
use Rattle.layers.specs.Ready.{Ready}
use Rattle.layers.specs.Next.{StepReady}
use Rattle.layers.proofs.StandingInputs.{first-layers-agree, result-same, ready-sized}

module _ (w h : ℕ) (steps : List Step) (count : ℕ) (src ws scr : List ℕ) where
  -- what holds after n steps
  pub record Rendering (n : ℕ) (d s : List ℕ) : Type 0 where
    pub long : length d ≡ length ws
    pub scratch : length s ≡ length scr
    pub done : FirstLayers w h n (layers_of w h steps count src) d

  pub rendering-none : Rendering 0 ws scr
  rendering-none = record { long = refl; scratch = refl; done = first-layers-none w h _ ws }

  -- after the last step
  pub rendering-holds : (d s : List ℕ) → length ws ≡ count * size w h → Rendering count d s → Holds w h count d (layers_of w h steps count src)
  rendering-holds d s e G = first-layers-hold w h count _ d (G.long ∙ e) G.done

  abbrev effects : ℕ → Effect
  effects = effects_of w h steps

  -- what stands after n steps
  abbrev after : ℕ → Env
  after = rendered (canvas_of w h) effects (read w h src 0)

  -- one more step
  module _ (R : Ready w h steps count src ws scr) (n : ℕ) (l : n < count) (d s : List ℕ) (G : Rendering n d s)
      (step : Step) (is : step ≡ step_at steps n) where
    agree : AgreeBefore n (stands w h src d) (after n)
    unfolding rendered
    agree = first-layers-agree w h src after (λ k. result (canvas_of w h) (effects k) (after k)) refl (λ m. refl) n count (omega arith) d G.done

    pub rendering-ready : ((k : ℕ) → k < count → FloodBytes (step_at steps k).kind) → StepReady w h n step src d s
    rendering-ready floods = record {
      sized = ready-sized w h steps count src ws scr R n l d G.long;
      scratch = G.scratch ∙ R.scratch;
      inputs =
          valid-agree n _ _ agree
          (record { valid = λ i t. rendered-valid (canvas_of w h) effects (read w h src 0) R.valid n (λ k m. step-valid w h (space_of steps) (step_at steps k) (floods k (omega arith))) i });
      accepted = rw is (R.sheet.each n l);
    }

    pub rendering-more : (spaces : Input → Space) → ((i : Input) → allowed? n i ≡ true → spaces i ≡ space_of steps i) → (d' s' : List ℕ) → LayerReplaced w h n (result (canvas_of w h) (effect_of w h spaces step) (stands w h src d)) d d' → length s' ≡ length s → Rendering (n + 1) d' s'
    rendering-more spaces known d' s' T e = record {
      long = T.long ∙ G.long;
      scratch = e ∙ G.scratch;
      done = first-layers-more w h n _ _ d d' layer-is G.done T;
    }
      where
        layer-is : result (canvas_of w h) (effect_of w h spaces step) (stands w h src d) ≡ layers_of w h steps count src n
        layer-is =
            ap (λ (x : Step). result (canvas_of w h) (effect_of w h spaces x) (stands w h src d)) is
            ∙ result-same w h n (step_at steps n) spaces (space_of steps) _ _ (R.sheet.each n l).inputs known agree
            ∙ sym (rendered-layer (canvas_of w h) effects (read w h src 0) n count l)
