-- Worked examples of curves, on a canvas of one pixel; values worked by hand. Assumes nothing.
use Rattle.std.specs.Prelude.{◌≡◌, refl, List, [], ◌∷◌, ◌++◌, map, replicate, ℤ, pos, negsuc, Err}
use Rattle.number.specs.declared.Number.TheVariants.{Decimal}
use Rattle.number.specs.Fraction.{nearest}
use Rattle.number.specs.Number.{judged_ratio}
use Rattle.pixel.specs.declared.Space.TheVariants.{Srgb, Linear}
use Rattle.pixel.specs.declared.Space as P
use Rattle.pixel.specs.declared.Transfer.{Transfer}
use Rattle.pixel.specs.declared.Transfer.TheVariants as T
use Rattle.pixel.specs.declared.Pixel.{Pixel}
use Rattle.pixel.specs.Alpha.{pixel}
use Rattle.pixel.specs.Remap.{remapped}
use Rattle.pixel.specs.Space.{to_linear}
use Rattle.pixel.specs.Convert.{differ?, converted}
use Rattle.pixel.specs.Curve.{table_channel, discrete_channel, linear_channel, transferred}
use Rattle.filter.specs.declared.Input as I
use Rattle.filter.specs.declared.Input.TheVariants.{Source, Layer}
use Rattle.filter.specs.declared.Map.TheVariants.{Curve}
use Rattle.filter.specs.declared.Kind.TheVariants as K
use Rattle.number.specs.declared.Number.{Number}
use Rattle.filter.specs.declared.Step.{Step}
use Rattle.filter.specs.declared.Refusal.TheVariants as A
use Rattle.filter.specs.Rect.{canvas_of, inside}
use Rattle.filter.specs.Picture.{blank, patch}
use Rattle.filter.specs.Layers.{rendered, replaced, initial}
use Rattle.filter.specs.Kinds.{mapped, work_of}
use Rattle.filter.specs.Steps.{no_input, no_number, shaped, values_of}
use Rattle.filter.specs.Sheets.{space_of, effect_of, effects_of}
use Rattle.filter.specs.Answers.{accepted?}
use Rattle.filter.specs.Checks.{first_of, all, inputs?, numbers_answer, step_answer}

abbrev pub decimals : List ℤ → List Number
decimals = map Decimal

-- a curve of the four transfers with numbers in ten-thousandths
abbrev pub curve : P.Space → I.Input → Transfer → Transfer → Transfer → Transfer → List ℤ → Step
curve s i r g b a ns = record {
  kind = K.Map (Curve (record { r = r; g = g; b = b; a = a }));
  region = record { x = 0; y = 0; width = 1; height = 1 };
  inputs = i ∷ replicate 3 no_input;
  numbers = decimals ns ++ replicate 57 no_number;
  space = s;
}

-- the pixel that the curve makes of the source p
abbrev pub curved : Step → Pixel → Pixel
curved s p = rendered (canvas_of 1 1) (effects_of 1 1 (s ∷ [])) (patch (canvas_of 1 1) (λ x y. p) blank) 1 (Layer 0) 0 0

-- red as it is; green by the table 1 0; blue by slope 2 and intercept 0.25; alpha by the steps 0 1 0.25
abbrev pub mixed : P.Space → Step
mixed s = curve s Source T.Identity (T.Table 2) T.Linear (T.Discrete 3) (pos 10000 ∷ pos 0 ∷ pos 20000 ∷ pos 2500 ∷ pos 0 ∷ pos 10000 ∷ pos 2500 ∷ [])

pub record Curves : Type 0 where
  -- 64, 32, 16 at 128 are unpremultiplied 128, 64, 32: red 128, green 191, blue 2 · 32 + 63.75 = 127.75, so 128, and alpha, in the second third, 255
  pub channels : curved (mixed Srgb) (pixel 64 32 16 128) ≡ pixel 128 191 128 255
  -- Every channel with numbers of its own: red by slope 0 and intercept 1, green by a table of 0.5, blue by a step of 0, alpha as it is; premultiplied
  -- (255 · 128 + 127) ÷ 255 = 128 and (128 · 128 + 127) ÷ 255 = 64.
  pub own_numbers : curved (curve Srgb Source T.Linear (T.Table 1) (T.Discrete 1) T.Linear (pos 0 ∷ pos 10000 ∷ pos 5000 ∷ pos 0 ∷ pos 10000 ∷ pos 0 ∷ []))
      (pixel 64 32 16 128) ≡ pixel 128 64 0 128
  -- In linear light the source is read as 28, 7, 2 at 128, unpremultiplied 56, 14, 4: red 56, green 241, blue 8 + 63.75 = 71.75, so 72.
  pub linear : curved (mixed Linear) (pixel 64 32 16 128) ≡ pixel 56 241 72 255
  -- alpha may rise from 0, and colours with it: unpremultiplied they are 0, and blue becomes 64 by its intercept; a third of 255 is 85
  pub from_nothing : curved (curve Srgb Source T.Identity T.Identity T.Linear (T.Table 1) (pos 10000 ∷ pos 2500 ∷ pos 3333 ∷ [])) (pixel 0 0 0 0)
      ≡ pixel 0 0 21 85
  -- 16 for 0 and for 17 entries; after 7, and before a number is looked at: here the first is 2, above what a table allows
  pub none : step_answer 1 1 3 (curve Srgb Source (T.Table 0) T.Identity T.Identity T.Identity []) ≡ Err (A.TableSize 3)
  pub many : step_answer 1 1 3 (curve Srgb Source T.Identity T.Identity T.Identity (T.Discrete 17) (pos 20000 ∷ [])) ≡ Err (A.TableSize 3)
  pub input_first : step_answer 1 1 3 (curve Srgb (Layer 3) (T.Table 0) T.Identity T.Identity T.Identity []) ≡ Err (A.Input 3)
  -- 9 for an entry below 0, 10 for one above 1; a slope may be both
  pub entry_below : step_answer 1 1 3 (curve Srgb Source T.Identity (T.Table 1) T.Identity T.Identity (negsuc 0 ∷ [])) ≡ Err (A.Negative 3)
  pub entry_above : step_answer 1 1 3 (curve Srgb Source T.Linear (T.Discrete 1) T.Identity T.Identity (negsuc 19999 ∷ pos 20000 ∷ pos 10001 ∷ []))
      ≡ Err (A.OutOfRange 3)

pub curves : Curves
unfolding differ? converted remapped to_linear table_channel discrete_channel linear_channel transferred space_of effect_of shaped values_of mapped work_of
    rendered replaced initial patch inside judged_ratio nearest step_answer inputs? all numbers_answer first_of accepted?
curves = record {
  channels = refl;
  own_numbers = refl;
  linear = refl;
  from_nothing = refl;
  none = refl;
  many = refl;
  input_first = refl;
  entry_below = refl;
  entry_above = refl;
}
