-- A step in the context that is made for it: what it asks, and what it leaves, said of the step itself. Assumes nothing.
use Prim.Native.Nat.{ℕ, ◌*◌}
use mathlib.Core.Path.{◌≡◌}
use mathlib.Core.List.{List}
use Rattle.pixel.specs.declared.Space.{Space}
use Rattle.filter.specs.declared.Input.{Input}
use Rattle.filter.specs.declared.Rect.{Rect}
use Rattle.filter.specs.declared.Resolved.{Resolved}
use Rattle.filter.specs.declared.Step.{Step}
use Rattle.filter.specs.Rect.{bounds_of, canvas_of, meet}
use Rattle.filter.specs.Picture.{patch}
use Rattle.filter.specs.Layers.{result, reached, damage}
use Rattle.filter.specs.Kinds.{reads}
use Rattle.filter.specs.Steps.{resolved}
use Rattle.filter.specs.Sheets.{effect_by, effect_of}
use Rattle.filter.specs.Bytes.{size, read}
use Rattle.filter.specs.Accepted.{Within}
use Rattle.filter.proofs.JoinedRects.{damage-inside}
use Rattle.buffers.specs.declared.Context.{Context}
use Rattle.buffers.specs.Buffers.{stands}
use Rattle.buffers.specs.Shown.{spaces_by}
use Rattle.buffers.specs.LayerReplaced.{LayerReplaced}
use Rattle.layers.specs.InContext.{ContextReady, RectInside, ContextRendered, ContextRedrawn}
use Rattle.layers.specs.Next.{StepReady}

module _ (c : Context) (w h n : ℕ) (s : Step) (zs : List Space) (made : Resolved) (region : Rect) (ew : c.w ≡ w) (eh : c.h ≡ h) (en : c.n ≡ n) (es : c.space ≡ s.space)
    (el : c.spaces ≡ zs) (em : made ≡ resolved s) (eb : region ≡ bounds_of s.region) (src ws : List ℕ) where
  pub context-ready : (scr : List ℕ) → StepReady w h n s src ws scr → ContextReady c made region src ws scr
  context-ready scr R = record {
    sized = rw (ew, eh, en) R.sized;
    scratch = rw (ew, eh) R.scratch;
    inputs = rw (ew, eh, en) R.inputs;
    earlier = rw (ew, eh, en, em) R.accepted.inputs;
    bounded = rw em R.accepted.numbers;
    region = rw (ew, eh, eb) (record { right = R.accepted.region.right; bottom = R.accepted.region.bottom });
  }

  pub context-rendered : (ws' : List ℕ) → ContextRendered c made region src ws ws'
      → LayerReplaced w h n (result (canvas_of w h) (effect_of w h (spaces_by zs) s) (stands w h src ws)) ws ws'
  unfolding effect_of
  context-rendered ws' T = rw (ew, eh, en, es, el, em, eb) at T

  -- the rectangle that a redraw works out
  module _ (rect : Rect) (z : Input → Rect) (ed : rect ≡ meet (meet (canvas_of w h) region) (reached (reads w h made.shape) z)) (W : Within w h rect) where
    pub damage-is-inside : RectInside c region rect
    damage-is-inside = record {
      inside = rw (ew, eh, ed) (damage-inside (canvas_of w h) (effect_by w h (spaces_by zs) c.space made region) z).covers;
      within = rw (ew, eh) W;
    }

    pub damage-of-step : rect ≡ damage (canvas_of w h) (effect_of w h (spaces_by zs) s) z
    unfolding effect_of
    damage-of-step = rw (eb, em) at ed

    pub context-redrawn : (ws' : List ℕ) → ContextRedrawn c made region rect src ws ws'
        → LayerReplaced w h n (patch (damage (canvas_of w h) (effect_of w h (spaces_by zs) s) z) (result (canvas_of w h) (effect_of w h (spaces_by zs) s) (stands w h src ws)) (read w h ws (n * size w h))) ws ws'
    unfolding effect_of
    context-redrawn ws' T = rw (damage-of-step, ew, eh, en, es, el, em, eb) at T
