-- Worked examples of working spaces, on a canvas of one pixel; values worked by hand. Assumes nothing.
use Rattle.std.specs.Prelude.{ℕ, ◌≡◌, refl, List, [], ◌∷◌, length, replicate, pos}
use Rattle.number.specs.declared.Number.TheVariants.{Decimal}
use Rattle.number.specs.Fraction.{nearest}
use Rattle.number.specs.Number.{judged_ratio}
use Rattle.pixel.specs.declared.Pixel.{Pixel}
use Rattle.pixel.specs.declared.Space as S
use Rattle.pixel.specs.declared.Space.TheVariants.{Srgb, Linear}
use Rattle.pixel.specs.Alpha.{pixel}
use Rattle.pixel.specs.Composite.{composited, merged}
use Rattle.pixel.specs.Flood.{flooded}
use Rattle.pixel.specs.Remap.{remapped}
use Rattle.pixel.specs.Space.{to_linear, to_srgb}
use Rattle.pixel.specs.Convert.{differ?, converted}
use Rattle.filter.specs.declared.Input as I
use Rattle.filter.specs.declared.Input.TheVariants.{Source, Layer}
use Rattle.filter.specs.declared.Kind.{Kind}
use Rattle.filter.specs.declared.Kind.TheVariants as K
use Rattle.filter.specs.declared.Step.{Step}
use Rattle.filter.specs.Rect.{canvas_of, inside}
use Rattle.filter.specs.Picture.{blank, patch}
use Rattle.filter.specs.Layers.{rendered, replaced, initial}
use Rattle.filter.specs.Kinds.{shifted, stacked, work_of}
use Rattle.filter.specs.Steps.{no_input, no_number, shaped}
use Rattle.filter.specs.Sheets.{space_of, effect_of, effects_of}

-- a step of two inputs and one number in ten-thousandths, the others 0
abbrev pub step_in : S.Space → Kind → I.Input → I.Input → ℕ → Step
step_in s k i j a = record {
  kind = k;
  region = record { x = 0; y = 0; width = 1; height = 1 };
  inputs = i ∷ j ∷ replicate 2 no_input;
  numbers = Decimal (pos a) ∷ replicate 63 no_number;
  space = s;
}

-- at half opacity; by nothing; the second input over the first
abbrev pub flood : S.Space → ℕ → ℕ → ℕ → Step
flood s r g b = step_in s (K.Flood r g b) Source Source 5000

abbrev pub offset : S.Space → I.Input → Step
offset s i = step_in s K.Offset i Source 0

abbrev pub merge : S.Space → I.Input → I.Input → Step
merge s i j = step_in s (K.Merge 2) i j 0

-- the pixel of layer n of the steps on the source p, in the space of step n
abbrev pub layer_of : List Step → Pixel → ℕ → Pixel
layer_of steps p n = rendered (canvas_of 1 1) (effects_of 1 1 steps) (patch (canvas_of 1 1) (λ x y. p) blank) (length steps) (Layer n) 0 0

pub record Converts : Type 0 where
  -- Alpha (255 · 32,768 + 32,768) ÷ 65,536 is 128; premultiplied by it 255, 128, 0 are 128, 64, 0. Unpremultiplied these are 255, 128, 0,
  -- which the table brings to 255, 55, 0; premultiplied 128, 28 from (55 · 128 + 127) ÷ 255, and 0.
  pub floods : layer_of (flood Linear 255 128 0 ∷ []) (pixel 0 0 0 0) 0 ≡ pixel 128 28 0 128
  -- in sRGB it stays as it was made
  pub as_made : layer_of (flood Srgb 255 128 0 ∷ []) (pixel 0 0 0 0) 0 ≡ pixel 128 64 0 128
  -- First made, then converted: 127 becomes 64, unpremultiplied 128, by the table 55, premultiplied 28. Converted first it would be 54 by the
  -- table, premultiplied 27.
  pub made_first : layer_of (flood Linear 127 0 0 ∷ []) (pixel 0 0 0 0) 0 ≡ pixel 28 0 0 128
  -- Moved by nothing, the source is still converted. 100, 50, 5 at 200 are unpremultiplied 128, 64, 6, by the table 55, 13, 0, and
  -- premultiplied 43 from (55 · 200 + 127) ÷ 255, 10 from (13 · 200 + 127) ÷ 255, and 0.
  pub source : layer_of (offset Linear Source ∷ []) (pixel 100 50 5 200) 0 ≡ pixel 43 10 0 200
  -- That layer read by an sRGB step: unpremultiplied 55, 13, 0, by the other table 128, 64, 0, premultiplied 100 from
  -- (128 · 200 + 127) ÷ 255, 50 from (64 · 200 + 127) ÷ 255, and 0: the source's 5 does not come back.
  pub back : layer_of (offset Linear Source ∷ offset Srgb (Layer 0) ∷ []) (pixel 100 50 5 200) 1 ≡ pixel 100 50 0 200
  -- read by a linear step it stays as it is
  pub kept : layer_of (offset Linear Source ∷ offset Linear (Layer 0) ∷ []) (pixel 100 50 5 200) 1 ≡ pixel 43 10 0 200
  -- The linear flood 128, 28, 0 at 128 over the source 0, 0, 128 at 255, merged in sRGB. The flood is read as 128, 65, 0: unpremultiplied
  -- 28 is 56, by the table 129, premultiplied 65. B is (128 · 127 + 127) ÷ 255 = 64.
  pub merged_srgb : layer_of (flood Linear 255 128 0 ∷ merge Srgb Source (Layer 0) ∷ []) (pixel 0 0 128 255) 1 ≡ pixel 128 65 64 255
  -- Merged in linear light: the source is read as 0, 0, 55. B is (55 · 127 + 127) ÷ 255 = 27.
  pub merged_linear : layer_of (flood Linear 255 128 0 ∷ merge Linear Source (Layer 0) ∷ []) (pixel 0 0 128 255) 1 ≡ pixel 128 28 27 255

pub converts : Converts
unfolding differ? converted remapped to_linear to_srgb flooded composited merged space_of effect_of shaped work_of shifted
    stacked rendered replaced initial patch inside judged_ratio nearest
converts = record {
  floods = refl;
  as_made = refl;
  made_first = refl;
  source = refl;
  back = refl;
  kept = refl;
  merged_srgb = refl;
  merged_linear = refl;
}
