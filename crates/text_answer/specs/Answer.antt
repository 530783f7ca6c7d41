-- From a text to what the program `sheet` prints. Assumes nothing.
use Rattle.std.specs.Prelude.{cond, List, ℕ, ◌-◌, ◌*◌, leb, length, take, replicate, Result, Ok, Err}
use Rattle.pixel.specs.declared.Space as S
use Rattle.filter.specs.declared.Call.TheVariants.{Render}
use Rattle.filter.specs.Picture.{Picture}
use Rattle.filter.specs.Bytes.{size, layers_of}
use Rattle.filter.specs.Steps.{step_at}
use Rattle.filter.specs.Answers.{Answer, number_of, place_of, accepted?}
use Rattle.text_step.specs.ManyFields.{stored}
use Rattle.text.specs.declared.Form.TheVariants as F
use Rattle.text.specs.declared.TextRefusal.{TextRefusal}
use Rattle.text.specs.declared.TextRefusal.TheVariants.{Line, Records}
use Rattle.text.specs.declared.Reading.{Reading}
use Rattle.text_print.specs.Output.{in_srgb, ok_text, refused_text}
use Rattle.lines.specs.Lines.{GivenText, giving_text, reading_in, list_in, answer_in}

-- a full render of the text's sheet on the source src, with a scratch buffer of the right length
abbrev pub text_render : List ℕ → ℕ → ℕ → List ℕ → List ℕ → GivenText
text_render s w h src ws = giving_text F.Sheet s Render w h src ws (replicate (2 * size w h) 0)

-- its answer for n steps, with a workspace of the right length
abbrev pub text_answer : List ℕ → ℕ → ℕ → ℕ → List ℕ → Answer
text_answer s w h n src = answer_in (text_render s w h src (replicate (n * size w h) 0))

abbrev pub last_layer : List ℕ → ℕ → ℕ → ℕ → List ℕ → Picture
last_layer s w h n src = layers_of w h (list_in F.Sheet s) n src (n - 1)

-- "A layer is kept in its step's space"
abbrev pub last_space : List ℕ → ℕ → S.Space
last_space s n = (step_at (list_in F.Sheet s) (n - 1)).space

-- no answer is longer: `ok` and sixteen rows of sixteen pixels, each line with its line feed
abbrev pub longest : ℕ
longest = 2371

-- "`ok` and the last layer as `row` lines, or one line: `refused`, number, place"
unfoldable pub answer_text : Answer → ℕ → ℕ → Picture → List ℕ
answer_text a w h p = cond (accepted? a) (ok_text w h p) (refused_text (number_of a) (place_of a))

-- "`sheet` prints the last layer in sRGB"
unfoldable pub sheet_text : List ℕ → ℕ → ℕ → ℕ → List ℕ → List ℕ
sheet_text s w h n src = answer_text (text_answer s w h n src) w h (in_srgb (last_space s n) (last_layer s w h n src))

-- the sheet on the pixels of its rows
abbrev pub read_text : List ℕ → Reading → List ℕ
read_text s r = sheet_text s r.width r.height r.count (take (size r.width r.height) r.pixels)

-- "For text, 15 comes before all others": the first line not of the form. 21 is never met: the list has room for every sheet
unfoldable pub reading_text : List ℕ → Result Reading TextRefusal → List ℕ
reading_text s (Ok r) = read_text s r
reading_text s (Err (Line n)) = refused_text 15 n
reading_text s (Err Records) = refused_text 21 0

-- what `sheet` prints for a text
unfoldable pub printed_of : List ℕ → List ℕ
printed_of s = reading_text s (reading_in F.Sheet s)

-- that at the start of out, where it fits
abbrev pub printed_into : List ℕ → List ℕ → List ℕ
printed_into out s = cond (leb (length (printed_of s)) (length out)) (stored out 0 (printed_of s)) out
