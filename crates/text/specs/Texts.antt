-- A text as a reader of some limits takes it: the text of a sheet with its canvas and pixels, and step lines alone. Assumes nothing.
use Rattle.std.specs.Prelude.{Bool, true, false, cond, ◌&&◌, ◌||◌, Option, Some, None, is_some, unwrap_or, List, [], ◌∷◌, ◌++◌, ℕ, ◌+◌, ◌*◌, eqb, ltb, length, get_or, drop, replicate}
use Rattle.filter.specs.declared.Step.{Step}
use Rattle.filter.specs.Limits.{most_steps, longest_text, text_picture}
use Rattle.text_field.specs.Words.{bytes}
use Rattle.text_field.specs.Field.{same}
use Rattle.text_field.specs.Split.{split}
use Rattle.text_step.specs.ManyFields.{all_fields}
use Rattle.text_step.specs.StepLine.{step_of}
use Rattle.filter.specs.Steps.{blank_step}
use Rattle.text.specs.declared.Canvas.{Canvas}
use Rattle.text.specs.Document.{pixel?, stored_pixels, canvas_in}
use Rattle.text.specs.Lines.{lines_of}

-- how many steps a reader takes, and how many bytes of a file
pub record Limits : Type 0 where
  pub steps : ℕ
  pub bytes : ℕ

abbrev pub current : Limits
current = record { steps = most_steps; bytes = longest_text }

-- those of readers before sheets had more than 16 steps
abbrev pub earlier : Limits
earlier = record { steps = 16; bytes = 32768 }

-- what the lines so far have given
pub record Draft : Type 0 where
  pub width : ℕ
  pub height : ℕ
  pub rows : ℕ
  pub steps : List Step
  pub pixels : List ℕ

-- a text that is of the form, or the place of refusal 15
pub record Text : Type 0 where
  pub good : Bool
  pub line : ℕ
  pub width : ℕ
  pub height : ℕ
  pub steps : List Step
  pub pixels : List ℕ

abbrev pub refused : ℕ → Text
refused n = record { good = false; line = n; width = 0; height = 0; steps = []; pixels = replicate text_picture 0 }

abbrev pub accepted : Draft → Text
accepted d = record { good = true; line = 0; width = d.width; height = d.height; steps = d.steps; pixels = d.pixels }

-- "missing lines at the line after the last"
abbrev pub completed : Draft → ℕ → Text
completed d n = cond (eqb d.rows d.height) (accepted d) (refused n)

abbrev pub blank_draft : ℕ → ℕ → Draft
blank_draft w h = record { width = w; height = h; rows = 0; steps = []; pixels = replicate text_picture 0 }

abbrev pub with_step : Draft → Step → Draft
with_step d s = record { width = d.width; height = d.height; rows = d.rows; steps = d.steps ++ (s ∷ []); pixels = d.pixels }

-- the row's pixels stand behind those of the rows before
abbrev pub with_row : Draft → List (List ℕ) → Draft
with_row d fs = record {
  width = d.width;
  height = d.height;
  rows = d.rows + 1;
  steps = d.steps;
  pixels = unwrap_or (stored_pixels d.pixels (4 * (d.rows * d.width)) (drop 1 fs)) d.pixels;
}

-- a step before the first row: "up to 64 steps"
abbrev pub step? : Limits → Draft → List (List ℕ) → Bool
step? lim d fs = eqb d.rows 0 && (ltb (length d.steps) lim.steps && is_some (step_of fs))

-- "exactly H lines `row`, each with W pixels"
unfoldable pub row? : Draft → List (List ℕ) → Bool
row? d fs = ltb d.rows d.height && (same (get_or fs 0 []) (bytes "row") && (eqb (length fs) (1 + d.width) && all_fields pixel? (drop 1 fs)))

unfoldable pub line? : Limits → Draft → List (List ℕ) → Bool
line? lim d fs = step? lim d fs || row? d fs

unfoldable pub after : Limits → Draft → List (List ℕ) → Draft
after lim d fs = cond (step? lim d fs) (with_step d (unwrap_or (step_of fs) blank_step)) (with_row d fs)

-- the lines after what was read before
abbrev pub draft_lines : Limits → Draft → ℕ → List (List ℕ) → Text
draft_lines lim = lines_of (line? lim) (after lim) completed refused

-- the lines after the canvas line
abbrev pub canvas_lines : Limits → Option Canvas → List (List ℕ) → Text
canvas_lines lim (Some c) ls = draft_lines lim (blank_draft c.width c.height) 2 ls
canvas_lines lim None ls = refused 1

-- the canvas line first
unfoldable pub text_lines : Limits → List (List ℕ) → Text
text_lines lim [] = refused 1
text_lines lim (l ∷ []) = refused 1
text_lines lim (l ∷ m ∷ ls) = canvas_lines lim (canvas_in (split 9 l)) (m ∷ ls)

-- "a file over 65,536 bytes, before all else, at place 0"
unfoldable pub text_of : Limits → List ℕ → Text
text_of lim s = cond (ltb lim.bytes (length s)) (refused 0) (text_lines lim (split 10 s))

-- step lines alone: as after a canvas without rows, and the first is line 1
unfoldable pub step_lines_of : Limits → List ℕ → Text
step_lines_of lim s = draft_lines lim (blank_draft 0 0) 1 (split 10 s)
