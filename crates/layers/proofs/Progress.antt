-- The loop over the steps of a call: what holds after n of them, in a render as in a redraw, and one step more. Assumes nothing.
use Prim.Native.Nat.{ℕ, ◌+◌, ◌<◌}
use mathlib.Core.Path.{◌≡◌, refl, ap, ◌∙◌, fun_ext}
use mathlib.Core.Bool.{true, false}
use mathlib.Core.List.{List}
use native.Mathlib.Omega.{arith}
use lib.ListN.{length, replicate}
use Rattle.pixel.specs.declared.Space.TheVariants.{Srgb}
use Rattle.filter.specs.declared.Region.{Region}
use Rattle.filter.specs.declared.Step.{Step}
use Rattle.filter.specs.declared.Sheet.{Sheet}
use Rattle.filter.specs.declared.Call.{Call}
use Rattle.filter.specs.declared.Call.TheVariants as C
use Rattle.filter.specs.Rect.{canvas_of, bounds_of, empty}
use Rattle.filter.specs.Layers.{damage, damages}
use Rattle.filter.specs.Steps.{step_at}
use Rattle.filter.specs.Sheets.{space_of, effects_of}
use Rattle.filter.specs.Bytes.{Holds}
use Rattle.filter.proofs.SeenInSpaces.{damage-spaces}
use Rattle.filter.specs.Answers.{Answer, accepted?}
use Rattle.filter.specs.Accepted.{Within, OnCanvas}
use Rattle.filter.specs.Limits.{most_steps}
use Rattle.damage.specs.declared.SoFar.{SoFar}
use Rattle.damage.proofs.DamagesSoFar.{Going, going-none, going-within, going_more}
use Rattle.layers.specs.Given.{giving}
use Rattle.layers.specs.Drawing.{drawn_of, count_for, ReadyFor, Drawing}
use Rattle.buffers.specs.Shown.{spaces_by}
use Rattle.layers.specs.Next.{StepReady, RectsReady, NextReady, step_rect, CallStepDrawn, NextDrawn, ScratchAfter}
use Rattle.layers.proofs.SpacesKept.{SpacesKept, spaces-kept-none, spaces-kept-more, kept-spaces}
use Rattle.layers.proofs.Rendering.{Rendering, rendering-none, rendering-ready, rendering-more, rendering-holds}
use Rattle.layers.proofs.Redrawing.{Redrawing, redrawing-none, redrawing-ready, redrawing-more, redrawing-holds}

changed-within : (w h : ℕ) (g : Region) → OnCanvas w h g → Within w h (bounds_of g)
changed-within w h g k = record { right = k.right; bottom = k.bottom }

module _ (sheet : Sheet) (steps : List Step) (src ws scr : List ℕ) where
  abbrev w : ℕ
  w = sheet.width

  abbrev h : ℕ
  h = sheet.height

  abbrev count : ℕ
  count = sheet.count

  -- of an accepted call: what stands in the buffers, the rectangles so far, and the spaces
  unfoldable pub Stands : Call → ℕ → List ℕ → List ℕ → SoFar → Type 0
  Stands C.Render n d s z = Rendering w h steps count src ws scr n d s × (z.count ≡ 0) × SpacesKept steps n z.spaces
  Stands (C.Redraw g) n d s z = Redrawing w h steps count (bounds_of g) src ws scr n d s × Going w h steps (bounds_of g) n z.rects z.count × SpacesKept steps n z.spaces

  stands-none : (call : Call) (z : SoFar) → z.rects ≡ replicate most_steps empty → z.count ≡ 0 → z.spaces ≡ replicate most_steps Srgb → Stands call 0 ws scr z
  unfolding Stands
  stands-none C.Render z a b c = (rendering-none w h steps count src ws scr, b, rw c (spaces-kept-none steps))
  stands-none (C.Redraw g) z a b c = (redrawing-none w h steps count (bounds_of g) src ws scr, rw (a, b) (going-none w h steps (bounds_of g) empty refl), rw c (spaces-kept-none steps))

  module _ (n : ℕ) (l : n < count) (d s : List ℕ) (z : SoFar) where
    step-ready : (call : Call) → ReadyFor call sheet steps src ws scr → Stands call n d s z → StepReady w h n (step_at steps n) src d s
    unfolding Stands
    step-ready C.Render R G = rendering-ready w h steps count src ws scr R.ready n l d s G.0 (step_at steps n) refl R.floods
    step-ready (C.Redraw g) R G =
        redrawing-ready w h steps count (bounds_of g) src ws scr R.ready n l d s G.0 (step_at steps n) refl R.floods (R.redraw g refl).0

    rects-ready : (g : Region) → OnCanvas w h g → Stands (C.Redraw g) n d s z → RectsReady w h n g z
    unfolding Stands
    rects-ready g k G = record { within = going-within w h steps (bounds_of g) n z.rects z.count G.1 (changed-within w h g k); few = G.1.few }

    stands-ready : (call : Call) → ReadyFor call sheet steps src ws scr → Stands call n d s z → NextReady call sheet n (step_at steps n) z src d s
    stands-ready call R G = record { buffers = step-ready call R G; rects = λ g e. rects-ready g (R.redraw g e).1 (rw e at G) }

    stands-more : (call : Call) → ReadyFor call sheet steps src ws scr → Stands call n d s z → (d' s' : List ℕ) (z' : SoFar)
        → CallStepDrawn call sheet n (step_at steps n) src d d' z z' → length s' ≡ length s → Stands call (n + 1) d' s' z'
    unfolding Stands CallStepDrawn
    stands-more C.Render R G d' s' z' D e = (
      rendering-more w h steps count src ws scr R.ready n l d s G.0 (step_at steps n) refl (spaces_by z.spaces) (kept-spaces steps n z G.2) d' s' D.layer e,
      D.count ∙ G.1,
      spaces-kept-more steps n z.spaces z'.spaces (omega (arith, R.ready.sheet.few)) G.2 D.spaces,
    )
    stands-more (C.Redraw g) R G d' s' z' D e = (
      redrawing-more w h steps count (bounds_of g) src ws scr R.ready n l d s G.0 (step_at steps n) refl (spaces_by z.spaces) (kept-spaces steps n z G.2) (step_rect w h g (step_at steps n) z) rect-is d' s' D.layer e,
      rw (D.rects, D.count) (going_more w h steps (bounds_of g) n z.rects z.count G.1 (omega (arith, R.ready.sheet.few)) (spaces_by z.spaces) (step_at steps n) refl _ refl _ refl D.small),
      spaces-kept-more steps n z.spaces z'.spaces (omega (arith, R.ready.sheet.few)) G.2 D.spaces,
    )
      where
        rect-is : step_rect w h g (step_at steps n) z ≡ damage (canvas_of w h) (effects_of w h steps n) (damages (canvas_of w h) (effects_of w h steps) (bounds_of g) n)
        rect-is =
            damage-spaces w h (spaces_by z.spaces) (space_of steps) (step_at steps n) _ ∙ ap (damage (canvas_of w h) (effects_of w h steps n)) (fun_ext G.1.each)

  stands-done : (d s : List ℕ) (z : SoFar) (call : Call) → ReadyFor call sheet steps src ws scr → Stands call count d s z
      → Holds w h count d (drawn_of call w h steps count ws src) × (length s ≡ length scr) × (z.count ≡ count_for call w h steps count)
  unfolding Stands
  stands-done d s z C.Render R G = (rendering-holds w h steps count src ws scr d s R.ready.workspace G.0, G.0.scratch, G.1)
  stands-done d s z (C.Redraw g) R G = (redrawing-holds w h steps count (bounds_of g) src ws scr d s R.ready.workspace G.0, G.0.scratch, G.1.sum)

  -- what holds after n steps
  pub record Progress (call : Call) (answer : Answer) (n : ℕ) (d s : List ℕ) (z : SoFar) : Type 0 where
    pub drawn : accepted? answer ≡ true → Stands call n d s z
    pub refused : accepted? answer ≡ false → (d ≡ ws) × (s ≡ scr) × (z.count ≡ 0)

  module _ (call : Call) (answer : Answer) where
    pub progress-none : (z : SoFar) → (z.rects ≡ replicate most_steps empty) × (z.count ≡ 0) × (z.spaces ≡ replicate most_steps Srgb) → Progress call answer 0 ws scr z
    progress-none z e = record { drawn = λ _. stands-none call z e.0 e.1 e.2; refused = λ _. (refl, refl, e.1) }

    module _ (R : accepted? answer ≡ true → ReadyFor call sheet steps src ws scr) where
      module _ (n : ℕ) (l : n < count) (d s : List ℕ) (z : SoFar) (P : Progress call answer n d s z) where
        pub progress-ready : (step : Step) → step ≡ step_at steps n → accepted? answer ≡ true → NextReady call sheet n step z src d s
        progress-ready step same a = rw same (stands-ready n l d s z call (R a) (P.drawn a))

        pub progress-more : (step : Step) → step ≡ step_at steps n → (d' s' : List ℕ) (z' : SoFar) → NextDrawn call sheet answer n step src d d' z z' → ScratchAfter answer s s' → Progress call answer (n + 1) d' s' z'
        progress-more step same d' s' z' D S = record {
          drawn = λ a. stands-more n l d s z call (R a) (P.drawn a) d' s' z' (rw same at (D.drawn a)) S.long;
          refused = λ a.
              let e = D.refused a in
              let p = P.refused a in
              (e.0 ∙ p.0, S.refused a ∙ p.1, ap (λ (x : SoFar). x.count) e.1 ∙ p.2);
        }

      pub progress-done : (d s : List ℕ) (z : SoFar) → Progress call answer count d s z → Drawing (giving call sheet steps src ws scr) answer d s z.count
      progress-done d s z P = record { drawn = λ a. stands-done d s z call (R a) (P.drawn a); refused = P.refused }
