-- Answers to calls whose steps are lines of text: refusal 15 at a line not of the form, before all others; else the sheet's own answer.
-- Assumes nothing.
use Rattle.std.specs.Prelude.{ℕ, List, Ok, Err}
use Rattle.filter.specs.declared.Call.{Call}
use Rattle.filter.specs.declared.Call.TheVariants as C
use Rattle.filter.specs.Answers.{Answer, number_of, place_of}
use Rattle.text.specs.declared.Form.TheVariants as F
use Rattle.text.specs.declared.TextRefusal.TheVariants.{Line, Records}
use Rattle.text.specs.Reading.{ReadAnswer, answer_of}
use Rattle.layers.specs.Given.{Slice, SliceMut}
use Rattle.render.specs.Promise.{if_accepted, zeros}
use Rattle.lines.specs.Lines.{GivenText, given_text, reading_in, answer_in, worked_in, layers_in, RedrawsIn, ValidIn}
use Rattle.capi.specs.declared.Redrawing.{Redrawing}

-- a call by the names in an `ensures`, its steps as lines; a full render, and a redraw of a rectangle by its four numbers
abbrev pub calling : Call → ℕ → ℕ → Slice ℕ → Slice ℕ → SliceMut ℕ → SliceMut ℕ → GivenText
calling call w h steps source workspace scratch = given_text F.Lines steps call w h source workspace scratch

abbrev pub rendering : ℕ → ℕ → Slice ℕ → Slice ℕ → SliceMut ℕ → SliceMut ℕ → GivenText
rendering w h steps source workspace scratch = calling C.Render w h steps source workspace scratch

abbrev pub redrawing : ℕ → ℕ → ℕ → ℕ → ℕ → ℕ → Slice ℕ → Slice ℕ → SliceMut ℕ → SliceMut ℕ → GivenText
redrawing x y columns rows w h steps source workspace scratch =
    calling (C.Redraw (record { x = x; y = y; width = columns; height = rows })) w h steps source workspace scratch

-- "For text, 15 comes before all others", and 21 straight after it; "line, from 1"
abbrev pub number_after : ReadAnswer → Answer → ℕ
number_after (Ok u) a = number_of a
number_after (Err (Line n)) a = 15
number_after (Err Records) a = 21

abbrev pub place_after : ReadAnswer → Answer → ℕ
place_after (Ok u) a = place_of a
place_after (Err (Line n)) a = n
place_after (Err Records) a = 0

-- the answers by value
unfoldable pub replied : ReadAnswer → Answer → ℕ → Redrawing
replied said a n = record { number = number_after said a; place = place_after said a; count = n }

unfoldable pub number_for : GivenText → ℕ
number_for t = number_after (answer_of (reading_in t.form t.text)) (answer_in t)

unfoldable pub place_for : GivenText → ℕ
place_for t = place_after (answer_of (reading_in t.form t.text)) (answer_in t)

-- the pixels that a redraw worked; a full render has no count
abbrev pub worked_for : GivenText → ℕ
worked_for t = worked_in (answer_in t) t

abbrev pub reply_for : GivenText → Redrawing
reply_for t = replied (answer_of (reading_in t.form t.text)) (answer_in t) (worked_for t)

-- the workspace and the scratch buffer after a call
abbrev pub layers_for : GivenText → List ℕ
layers_for t = layers_in (answer_in t) t

abbrev pub cleared_for : GivenText → List ℕ
cleared_for t = if_accepted (answer_in t) (zeros t.scratch) t.scratch

-- what holds of the workspace after an accepted one
abbrev pub RedrawsAfter : GivenText → List ℕ → Type 0
RedrawsAfter t after = RedrawsIn (answer_in t) t after

abbrev pub ValidAfter : GivenText → List ℕ → Type 0
ValidAfter t after = ValidIn (answer_in t) t after
