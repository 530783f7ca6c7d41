-- The answer to a call, and the buffers after a full render and after a redraw, for every input. Assumes nothing.
use Rattle.std.specs.Prelude.{ℕ, ◌+◌, ◌*◌, ◌<◌, min, ◌≡◌, true, cond, List, length, replicate, Result, Ok, Err}
use Rattle.pixel.specs.Alpha.{Valid}
use Rattle.pixel.specs.Bytes.{pixel_at}
use Rattle.filter.specs.declared.Refusal.{Refusal}
use Rattle.filter.specs.declared.Call.{Call}
use Rattle.filter.specs.declared.Call.TheVariants as C
use Rattle.filter.specs.declared.Input.TheVariants.{Layer}
use Rattle.filter.specs.declared.Region.{Region}
use Rattle.filter.specs.declared.Sheet.{Sheet}
use Rattle.filter.specs.declared.Step.{Step}
use Rattle.filter.specs.Rect.{In, bounds_of, canvas_of}
use Rattle.filter.specs.Sheets.{effects_of}
use Rattle.filter.specs.Layers.{damages, count}
use Rattle.filter.specs.Bytes.{size, bytes_of, layers_of, redrawn_of}
use Rattle.filter.specs.SameOutside.{SameOutside}
use Rattle.filter.specs.Answers.{Answer, number_of, place_of, accepted?}
use Rattle.filter.specs.Checks.{answer_of}
use Rattle.layers.specs.Given.{Given}

-- what a call gives back: its answer, and the pixels that it worked, "0 when refused"
abbrev pub returned_answer : Result ℕ Refusal → Answer
returned_answer (Ok n) = Ok tt
returned_answer (Err e) = Err e

abbrev pub returned_count : Result ℕ Refusal → ℕ
returned_count (Ok n) = n
returned_count (Err e) = 0

-- "A refusal changes nothing that was lent."
abbrev pub if_accepted : Answer → List ℕ → List ℕ → List ℕ
if_accepted a new old = cond (accepted? a) new old

-- the bytes of the layers of the steps on the picture src, "one layer after another"
abbrev pub layer_bytes : ℕ → ℕ → List Step → ℕ → List ℕ → List ℕ
layer_bytes w h steps n src = bytes_of w h n (layers_of w h steps n src)

-- the bytes that a redraw of the rectangle g makes of the layers in d
abbrev pub redrawn_bytes : ℕ → ℕ → List Step → ℕ → Region → List ℕ → List ℕ → List ℕ
redrawn_bytes w h steps n g d src = bytes_of w h n (redrawn_of w h steps n (bounds_of g) d src)

-- "The scratch buffer .. is all zero after an accepted call."
abbrev pub zeros : List ℕ → List ℕ
zeros d = replicate (length d) 0

-- "The count is the sum of the areas", and "0 when refused"
abbrev pub redraw_count : Answer → ℕ → ℕ → List Step → ℕ → Region → ℕ
redraw_count a w h steps n g = cond (accepted? a) (count (canvas_of w h) (effects_of w h steps) (bounds_of g) n) 0

-- demand 3, of the workspace before and after an accepted redraw
pub record Redraws (w h : ℕ) (steps : List Step) (n : ℕ) (g : Region) (src before after : List ℕ) : Type 0 where
  -- where the workspace held the layers of an old picture that differs from the new one inside the rectangle only, it holds the layers of
  -- the new one; the old picture may be any, so also one that a full render accepts
  pub current : (old : List ℕ) → SameOutside w h (bounds_of g) old src → before ≡ layer_bytes w h steps n old → after ≡ layer_bytes w h steps n src
  -- whatever the workspace held: no pixel outside its layer's derived rectangle is altered
  pub elsewhere : (k x y : ℕ) → k < n → x < w → y < h → ¬ In (damages (canvas_of w h) (effects_of w h steps) (bounds_of g) n (Layer k)) x y
      → pixel_at after (k * size w h + 4 * (y * w + x)) ≡ pixel_at before (k * size w h + 4 * (y * w + x))

-- "no colour above its alpha", at every pixel of the n layers in d
pub record AllValid (w h n : ℕ) (d : List ℕ) : Type 0 where
  pub valid : (k x y : ℕ) → k < n → x < w → y < h → Valid (pixel_at d (k * size w h + 4 * (y * w + x)))

-- how many steps of the list count: as many as the sheet says, and no more than there are
abbrev pub taken : Sheet → List Step → ℕ
taken s steps = min s.count (length steps)

-- the answer of the refusal table, its number and its place
abbrev pub answered : Given → Answer
answered g =
    answer_of g.sheet.width g.sheet.height g.steps (taken g.sheet g.steps) g.call g.source g.workspace (length g.scratch)

abbrev pub as_number : Given → ℕ
as_number g = number_of (answered g)

abbrev pub as_place : Given → ℕ
as_place g = place_of (answered g)

-- the bytes that a call makes of the layers in ws
unfoldable pub drawn_bytes : Call → Sheet → List Step → List ℕ → List ℕ → List ℕ
drawn_bytes C.Render s steps src ws = layer_bytes s.width s.height steps (taken s steps) src
drawn_bytes (C.Redraw g) s steps src ws = redrawn_bytes s.width s.height steps (taken s steps) g ws src

-- the workspace after a call with the answer a
abbrev pub if_drawn : Answer → Given → List ℕ
if_drawn a g = if_accepted a (drawn_bytes g.call g.sheet g.steps g.source g.workspace) g.workspace

-- the pixels worked: those of a redraw; a full render has no count
unfoldable pub pixels_worked : Answer → Call → Sheet → List Step → ℕ
pixels_worked a C.Render s steps = 0
pixels_worked a (C.Redraw g) s steps = redraw_count a s.width s.height steps (taken s steps) g

-- demand 3, where the call is an accepted redraw
abbrev pub RedrawsFor : Answer → Given → List ℕ → Type 0
RedrawsFor a g after = accepted? a ≡ true → (r : Region) → g.call ≡ C.Redraw r
    → Redraws g.sheet.width g.sheet.height g.steps (taken g.sheet g.steps) r g.source g.workspace after

-- "no colour above its alpha", after an accepted call
abbrev pub ValidFor : Answer → Given → List ℕ → Type 0
ValidFor a g after = accepted? a ≡ true → AllValid g.sheet.width g.sheet.height (taken g.sheet g.steps) after
