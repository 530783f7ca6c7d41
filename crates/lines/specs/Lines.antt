-- Calls whose steps are lines of text: what the reader says of the lines, and the answer and the buffers of the sheet that they make.
-- Assumes nothing.
use Rattle.std.specs.Prelude.{ℕ, List, ◌++◌, take, drop, replicate, Result}
use Rattle.filter.specs.Answers.{Answer}
use Rattle.filter.specs.declared.Call.{Call}
use Rattle.filter.specs.declared.Sheet.{Sheet}
use Rattle.filter.specs.declared.Step.{Step}
use Rattle.filter.specs.Limits.{most_steps}
use Rattle.filter.specs.Steps.{blank_step}
use Rattle.text.specs.declared.Form.{Form}
use Rattle.text.specs.declared.Reading.{Reading}
use Rattle.text.specs.declared.TextRefusal.{TextRefusal}
use Rattle.text.specs.Reading.{reading_of, count_of, steps_in}
use Rattle.layers.specs.Given.{Given, giving, Slice, SliceMut}
use Rattle.render.specs.Promise.{answered, pixels_worked, if_drawn, RedrawsFor, ValidFor}

-- what the reader says of a text, for a list as long as a sheet may be
abbrev pub reading_in : Form → List ℕ → Result Reading TextRefusal
reading_in form s = reading_of form s most_steps

-- that list: the steps of the text, then blank ones
abbrev pub list_in : Form → List ℕ → List Step
list_in form s = take (count_of (reading_in form s)) (steps_in form s) ++ drop (count_of (reading_in form s)) (replicate most_steps blank_step)

-- the sheet of the text on a canvas of w by h; a refused text has no steps
abbrev pub sheet_in : Form → List ℕ → ℕ → ℕ → Sheet
sheet_in form s w h = record { width = w; height = h; count = count_of (reading_in form s) }

-- what a call on a text is given: the text in place of a sheet and a list
pub record GivenText : Type 0 where
  pub form : Form
  pub text : List ℕ
  pub call : Call
  pub width : ℕ
  pub height : ℕ
  pub source : List ℕ
  pub workspace : List ℕ
  pub scratch : List ℕ

-- by its parts
abbrev pub giving_text : Form → List ℕ → Call → ℕ → ℕ → List ℕ → List ℕ → List ℕ → GivenText
giving_text form s call w h src ws scr =
    record { form = form; text = s; call = call; width = w; height = h; source = src; workspace = ws; scratch = scr }

-- by the names in an `ensures`
abbrev pub given_text : Form → Slice ℕ → Call → ℕ → ℕ → Slice ℕ → SliceMut ℕ → SliceMut ℕ → GivenText
given_text form text call w h source workspace scratch =
    giving_text form text.entry.now call w h source.entry.now workspace.entry.now scratch.entry.now

-- its sheet and its list
abbrev pub given_by : GivenText → Given
given_by t = giving t.call (sheet_in t.form t.text t.width t.height) (list_in t.form t.text) t.source t.workspace t.scratch

-- what is promised of them
abbrev pub answer_in : GivenText → Answer
answer_in t = answered (given_by t)

abbrev pub worked_in : Answer → GivenText → ℕ
worked_in a t = pixels_worked a t.call (sheet_in t.form t.text t.width t.height) (list_in t.form t.text)

abbrev pub layers_in : Answer → GivenText → List ℕ
layers_in a t = if_drawn a (given_by t)

abbrev pub RedrawsIn : Answer → GivenText → List ℕ → Type 0
RedrawsIn a t after = RedrawsFor a (given_by t) after

abbrev pub ValidIn : Answer → GivenText → List ℕ → Type 0
ValidIn a t after = ValidFor a (given_by t) after
