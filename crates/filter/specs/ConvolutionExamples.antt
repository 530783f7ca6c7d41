-- Worked examples of convolutions on small canvases; values worked by hand. Assumes nothing.
use Rattle.std.specs.Prelude.{ℕ, ◌+◌, ◌*◌, ◌≡◌, refl, Bool, true, false, List, [], ◌∷◌, ◌++◌, get_or, replicate, ℤ, pos, negsuc, Ok, Err}
use Rattle.number.specs.Fraction.{nearest}
use Rattle.number.specs.Number.{judged_ratio}
use Rattle.pixel.specs.declared.Space.TheVariants.{Srgb}
use Rattle.pixel.specs.declared.Pixel.{Pixel}
use Rattle.pixel.specs.declared.Edge.{Edge}
use Rattle.pixel.specs.declared.Edge.TheVariants.{Duplicate, Wrap, None}
use Rattle.pixel.specs.declared.Convolution.{Convolution}
use Rattle.pixel.specs.Alpha.{pixel, clear}
use Rattle.pixel.specs.Convert.{differ?, converted}
use Rattle.pixel.specs.Convolve.{sum, divisor_of, extended, quotient, neighbour, weighed, convolved}
use Rattle.filter.specs.declared.Input as I
use Rattle.filter.specs.declared.Input.TheVariants.{Source, Layer}
use Rattle.filter.specs.declared.Kind.TheVariants.{Convolve}
use Rattle.filter.specs.declared.Rect.{Rect}
use Rattle.filter.specs.declared.Step.{Step}
use Rattle.filter.specs.declared.Refusal.TheVariants as A
use Rattle.filter.specs.Rect.{canvas_of, inside, filled, join, empty}
use Rattle.filter.specs.Picture.{blank, patch}
use Rattle.filter.specs.Reach.{grow}
use Rattle.filter.specs.Layers.{rendered, damages, replaced, initial, changed, reached}
use Rattle.filter.specs.Kinds.{work_of, reads}
use Rattle.filter.specs.Steps.{no_input, no_number, shaped, values_of}
use Rattle.filter.specs.Sheets.{space_of, effect_of, effects_of}
use Rattle.filter.specs.Answers.{accepted?}
use Rattle.filter.specs.Checks.{first_of, all, inputs?, numbers_answer, step_answer}
use Rattle.filter.specs.CurveExamples.{decimals}

-- a kernel of so many columns and rows with its target, and whether a divisor is given
abbrev pub kernel : ℕ → ℕ → ℕ → ℕ → Bool → Edge → Convolution
kernel n m t u d e = record { columns = n; rows = m; divided = d; column = t; row = u; preserve = false; edge = e }

-- the same that preserves alpha
abbrev pub preserving : Convolution → Convolution
preserving k = record { columns = k.columns; rows = k.rows; divided = k.divided; column = k.column; row = k.row; preserve = true; edge = k.edge }

-- a step of it, with numbers in ten-thousandths, on all of a canvas of w by h
abbrev pub convolving : I.Input → Convolution → List ℤ → ℕ → ℕ → Step
convolving i k ns w h = record {
  kind = Convolve k;
  region = record { x = 0; y = 0; width = w; height = h };
  inputs = i ∷ replicate 3 no_input;
  numbers = decimals ns ++ replicate 55 no_number;
  space = Srgb;
}

-- the pixel at (x, y) that it makes of these pixels, row by row
abbrev pub made_at : ℕ → ℕ → Convolution → List ℤ → List Pixel → ℕ → ℕ → Pixel
made_at w h k ns ps x y =
    rendered (canvas_of w h) (effects_of w h (convolving Source k ns w h ∷ [])) (patch (canvas_of w h) (λ u v. get_or ps (v * w + u) clear) blank) 1 (Layer 0) x y

-- its redraw rectangle for the changed one
abbrev pub redraw_of : ℕ → ℕ → Convolution → Rect → Rect
redraw_of w h k r = damages (canvas_of w h) (effects_of w h (convolving Source k [] w h ∷ [])) r 1 (Layer 0)

abbrev pub rect : ℕ → ℕ → ℕ → ℕ → Rect
rect x y w h = record { left = x; right = x + w; top = y; bottom = y + h }

-- alpha alone
abbrev pub shade : ℕ → Pixel
shade a = pixel 0 0 0 a

-- 1, 2, 3 and its sum 6 as divisor, over 60, 120, 180; turned half round, 3 goes with the place before
abbrev pub across : Edge → ℕ → Pixel
across e x = made_at 3 1 (kernel 3 1 1 0 false e) (pos 10000 ∷ pos 20000 ∷ pos 30000 ∷ pos 0 ∷ []) (shade 60 ∷ shade 120 ∷ shade 180 ∷ []) x 0

-- 1 above 2, the target above, over 60, 90, 120 down: 2 goes with the own place and 1 with the next; divided by 3
abbrev pub down : Edge → ℕ → Pixel
down e y = made_at 1 3 (kernel 1 2 0 0 true e) (pos 10000 ∷ pos 20000 ∷ pos 30000 ∷ pos 0 ∷ []) (shade 60 ∷ shade 90 ∷ shade 120 ∷ []) 0 y

-- one value on one pixel, with a divisor and a bias
abbrev pub alone : ℤ → ℤ → ℤ → Pixel → Pixel
alone value divisor bias p = made_at 1 1 (kernel 1 1 0 0 true None) (value ∷ divisor ∷ bias ∷ []) (p ∷ []) 0 0

abbrev pub alone_kept : ℤ → ℤ → Pixel → Pixel
alone_kept value bias p = made_at 1 1 (preserving (kernel 1 1 0 0 true None)) (value ∷ pos 10000 ∷ bias ∷ []) (p ∷ []) 0 0

pub record Convolutions : Type 0 where
  -- (3 · 0 + 2 · 60 + 120) / 6, (3 · 60 + 2 · 120 + 180) / 6, (3 · 120 + 2 · 180 + 0) / 6
  pub none : (across None 0 ≡ shade 40) × (across None 1 ≡ shade 100) × (across None 2 ≡ shade 120)
  -- (180 + 120 + 120) / 6, (360 + 360 + 180) / 6
  pub duplicate : (across Duplicate 0 ≡ shade 70) × (across Duplicate 2 ≡ shade 150)
  -- (540 + 120 + 120) / 6, (360 + 360 + 60) / 6
  pub wrap : (across Wrap 0 ≡ shade 130) × (across Wrap 2 ≡ shade 130)
  -- the last of 5 values, the target at the right, brings the place 4 before: on 3 places round and round that is the one before
  pub around : made_at 3 1 (kernel 5 1 4 0 false Wrap) (pos 0 ∷ pos 0 ∷ pos 0 ∷ pos 0 ∷ pos 10000 ∷ []) (shade 60 ∷ shade 120 ∷ shade 180 ∷ []) 0 0 ≡ shade 180
  -- (2 · 60 + 90) / 3; at the end 2 · 120 / 3, with 120 again / 3, with 60 / 3
  pub columns : (down None 0 ≡ shade 70) × (down None 2 ≡ shade 80) × (down Duplicate 2 ≡ shade 120) × (down Wrap 2 ≡ shade 100)
  -- 1, −1 has the sum 0 and is divided by 1: alpha 200 − 100, colour 200 − 0, lowered to alpha
  pub lowered : made_at 2 1 (kernel 2 1 1 0 false None) (pos 10000 ∷ negsuc 9999 ∷ []) (shade 100 ∷ pixel 200 0 0 200 ∷ []) 1 0 ≡ pixel 100 0 0 100
  -- 101 / 2 is 50.5, which goes up; −101 / −2 too; 101 / −2 + 101 is 50.5, and the bias brings colours of 101, which are lowered; below zero is 0
  pub ties : (alone (pos 10000) (pos 20000) (pos 0) (shade 101) ≡ shade 51) × (alone (negsuc 9999) (negsuc 19999) (pos 0) (shade 101) ≡ shade 51)
      × (alone (pos 10000) (negsuc 19999) (pos 10000) (shade 101) ≡ pixel 51 51 51 51) × (alone (pos 10000) (negsuc 19999) (pos 0) (shade 101) ≡ shade 0)
  -- a bias of 0.25 is a quarter of the own alpha, 32, for every channel
  pub bias : alone (pos 10000) (pos 10000) (pos 2500) (pixel 64 32 16 128) ≡ pixel 96 64 48 160
  -- 64, 32, 16 at 128 are unpremultiplied 128, 64, 32: doubled 255, 128, 64, and premultiplied 128, 64, 32; with the bias 160, 96, 64, so 80, 48, 32
  pub preserved : (alone_kept (pos 20000) (pos 0) (pixel 64 32 16 128) ≡ pixel 128 64 32 128)
      × (alone_kept (pos 10000) (pos 2500) (pixel 64 32 16 128) ≡ pixel 80 48 32 128)
  -- 4 columns, target 1: 2 to the left and 1 to the right; 3 rows, target 2: 0 up and 2 down; an edge that is extended: all, if there is any
  pub redraws : (redraw_of 8 8 (kernel 4 3 1 2 false None) (rect 3 3 1 1) ≡ rect 1 3 4 3)
      × (redraw_of 8 8 (kernel 4 3 1 2 false Wrap) (rect 3 3 1 1) ≡ rect 0 0 8 8)
      × (redraw_of 8 8 (kernel 1 1 0 0 false Duplicate) (rect 7 7 1 1) ≡ rect 0 0 8 8) × (redraw_of 8 8 (kernel 1 1 0 0 false Duplicate) (rect 3 3 0 1) ≡ empty)
  -- 17 for orders of 0 and 6 and for a target outside; after 7, and before a number is looked at: here the first is 300
  pub orders : (step_answer 1 1 3 (convolving Source (kernel 0 1 0 0 false None) (pos 3000000 ∷ []) 1 1) ≡ Err (A.Kernel 3))
      × (step_answer 1 1 3 (convolving Source (kernel 1 6 0 0 false None) (pos 3000000 ∷ []) 1 1) ≡ Err (A.Kernel 3))
  pub targets : (step_answer 1 1 3 (convolving Source (kernel 3 2 3 0 false None) (pos 3000000 ∷ []) 1 1) ≡ Err (A.Kernel 3))
      × (step_answer 1 1 3 (convolving Source (kernel 3 2 2 2 false None) (pos 3000000 ∷ []) 1 1) ≡ Err (A.Kernel 3))
  pub input_first : step_answer 1 1 3 (convolving (Layer 3) (kernel 0 1 0 0 false None) [] 1 1) ≡ Err (A.Input 3)
  -- a divisor of 0 after the bias, which here is 300, and before 13; where none is given the bias may be 0
  pub divisor : (step_answer 1 1 3 (convolving Source (kernel 1 1 0 0 true None) (pos 10000 ∷ pos 0 ∷ pos 3000000 ∷ []) 2 1) ≡ Err (A.OutOfRange 3))
      × (step_answer 1 1 3 (convolving Source (kernel 1 1 0 0 true None) (pos 10000 ∷ pos 0 ∷ pos 0 ∷ []) 2 1) ≡ Err (A.Kernel 3))
      × (step_answer 1 1 3 (convolving Source (kernel 1 1 0 0 false None) (pos 10000 ∷ pos 0 ∷ []) 2 1) ≡ Err (A.OutsideCanvas 3))
      × (step_answer 1 1 3 (convolving Source (kernel 1 1 0 0 false None) (pos 10000 ∷ pos 0 ∷ []) 1 1) ≡ Ok tt)

pub convolutions : Convolutions
unfolding differ? converted sum divisor_of extended quotient neighbour weighed convolved space_of effect_of shaped values_of work_of reads
    rendered damages replaced initial changed reached patch inside filled join grow judged_ratio nearest step_answer inputs? all numbers_answer first_of accepted?
convolutions = record {
  none = (refl, refl, refl);
  duplicate = (refl, refl);
  wrap = (refl, refl);
  around = refl;
  columns = (refl, refl, refl, refl);
  lowered = refl;
  ties = (refl, refl, refl, refl);
  bias = refl;
  preserved = (refl, refl);
  redraws = (refl, refl, refl, refl);
  orders = (refl, refl);
  targets = (refl, refl);
  input_first = refl;
  divisor = (refl, refl, refl, refl);
}
