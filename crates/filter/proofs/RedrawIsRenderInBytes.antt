-- Demand 3 on bytes: redrawing the workspace that holds the layers of the old source gives the layers of the new one.
-- It rests on the locality of every kind. Assumes nothing.
use Prim.Native.Nat.{ℕ, ◌+◌, ◌*◌, ◌<◌}
use mathlib.Core.Path.{◌≡◌, ◌∙◌, ap}
use mathlib.Core.List.{List}
use Rattle.pixel.specs.Bytes.{pixel_at}
use Rattle.filter.specs.declared.Rect.{Rect}
use Rattle.filter.specs.declared.Step.{Step}
use Rattle.filter.specs.declared.Input.TheVariants.{Layer}
use Rattle.filter.specs.Rect.{In, canvas_of}
use Rattle.filter.specs.Picture.{Picture}
use Rattle.filter.specs.Effect.{Env, Effect}
use Rattle.filter.specs.Layers.{result, rendered, damages, redrawn}
use Rattle.filter.specs.Valid.{BlankOutside}
use Rattle.filter.specs.Steps.{step_at}
use Rattle.filter.specs.Sheets.{space_of, effects_of}
use Rattle.filter.specs.Bytes.{size, read, Holds, layers_of, redrawn_of}
use Rattle.filter.specs.SameOutside.{SameOutside}
use Rattle.filter.proofs.PlacesInRects.{meet_left}
use Rattle.filter.proofs.Patches.{patch-out}
use Rattle.filter.proofs.Locality.{step_local}
use Rattle.filter.proofs.RedrawIsRender.{rendered-layer, redrawn-outside, redrawn-same, redraw-is-render}
use Rattle.filter.proofs.ReadPictures.{holds-unique, holds_read, read-outside, read-pixel}

-- a layer is blank outside the canvas
pub result-blank : (canvas : Rect) (e : Effect) (E : Env) → BlankOutside canvas (result canvas e E)
result-blank canvas e E = record { outside = λ x y out. patch-out _ _ _ (λ t. out (meet_left _ _ t)) }

module _ (w h : ℕ) (steps : List Step) (count : ℕ) where
  pub layer-blank : (src : List ℕ) (n : ℕ) → n < count → BlankOutside (canvas_of w h) (layers_of w h steps count src n)
  layer-blank src n l = rw (rendered-layer (canvas_of w h) (effects_of w h steps) (read w h src 0) n count l) (result-blank (canvas_of w h) (effects_of w h steps n) (rendered (canvas_of w h) (effects_of w h steps) (read w h src 0) n))

  -- demand 3 on pictures
  pub redraw-pictures : (r : Rect) (old new : Picture) → ((x y : ℕ) → ¬ In r x y → old x y ≡ new x y)
      → redrawn (canvas_of w h) (effects_of w h steps) r (λ k. rendered (canvas_of w h) (effects_of w h steps) old count (Layer k)) new count
      ≡ rendered (canvas_of w h) (effects_of w h steps) new count
  redraw-pictures r old new same = redraw-is-render (canvas_of w h) (effects_of w h steps) (λ k. step_local w h (space_of steps) (step_at steps k)) r old new same count

  -- demand 3 on bytes
  pub redraw-layers : (r : Rect) (old new d : List ℕ) → SameOutside w h r old new → Holds w h count d (layers_of w h steps count old)
      → (n : ℕ) → redrawn_of w h steps count r d new n ≡ layers_of w h steps count new n
  redraw-layers r old new d same hd n = ap (λ (E : Env). E (Layer n)) (
      redrawn-same (canvas_of w h) (effects_of w h steps) r _ _ (read w h new 0) count (λ k l. holds_read w h count d _ hd k l (layer-blank old k l))
      ∙ redraw-pictures r (read w h old 0) (read w h new 0) (read-outside w h r old new same)
      )

  -- the same, of buffers: what a redraw leaves is what a full render leaves
  pub redraw-buffers : (r : Rect) (old new before redone fresh : List ℕ)
      → SameOutside w h r old new
      → Holds w h count before (layers_of w h steps count old)
      → Holds w h count redone (redrawn_of w h steps count r before new)
      → Holds w h count fresh (layers_of w h steps count new)
      → redone ≡ fresh
  redraw-buffers r old new before redone fresh same hb hr hf = holds-unique w h count redone fresh _ _ hr hf λ n l. redraw-layers r old new before same hb n

  -- for any workspace, a pixel outside its layer's rectangle keeps its bytes
  pub redraw-keeps : (r : Rect) (new before redone : List ℕ)
      → Holds w h count redone (redrawn_of w h steps count r before new)
      → (n x y : ℕ) → n < count → x < w → y < h → ¬ In (damages (canvas_of w h) (effects_of w h steps) r count (Layer n)) x y
      → pixel_at redone (n * size w h + 4 * (y * w + x)) ≡ pixel_at before (n * size w h + 4 * (y * w + x))
  redraw-keeps r new before redone hr n x y ln lx ly out =
      hr.same n x y ln lx ly ∙ redrawn-outside (canvas_of w h) (effects_of w h steps) r _ _ n count ln x y out ∙ read-pixel w h before _ x y lx ly
