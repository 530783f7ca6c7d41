-- What is printed for the example of RULES 9.9, for a flood in linear light, and for refusals of a text, of a sheet and of a number, computed from
-- the rules. Assumes nothing.
use Rattle.std.specs.Prelude.{◌≡◌, refl, List, [], ◌++◌, ℕ}
use Rattle.number.specs.Fraction.{nearest}
use Rattle.number.specs.Number.{judged_ratio}
use Rattle.pixel.specs.Composite.{composited}
use Rattle.pixel.specs.Flood.{flooded}
use Rattle.pixel.specs.Bytes.{first_invalid}
use Rattle.pixel.specs.Remap.{remapped}
use Rattle.pixel.specs.Space.{to_linear, to_srgb}
use Rattle.pixel.specs.Convert.{differ?, converted}
use Rattle.filter.specs.Rect as R
use Rattle.filter.specs.Picture.{patch}
use Rattle.filter.specs.Layers as L
use Rattle.filter.specs.Kinds.{work_of, paired}
use Rattle.filter.specs.Steps as S
use Rattle.filter.specs.Sheets.{space_of, effect_of}
use Rattle.filter.specs.Bytes as B
use Rattle.filter.specs.Answers.{accepted?}
use Rattle.filter.specs.Checks as C
use Rattle.text_field.specs.Words.{bytes}
use Rattle.text_field.specs.Split as T
use Rattle.text_field.specs.Field as F
use Rattle.text_step.specs.ManyFields as M
use Rattle.text_step.specs.Spaces.{space_in}
use Rattle.text_step.specs.Kinds as K
use Rattle.text_step.specs.StepLine as P
use Rattle.text.specs.Document as D
use Rattle.text.specs.Lines.{lines_of}
use Rattle.text.specs.Texts as X
use Rattle.text.specs.Reading.{reading_of}
use Rattle.text.specs.Examples.{example, canvas_line, row_line}
use Rattle.text_print.specs.Digits.{digit, shortest, decimal, hex_byte, hex_pixel}
use Rattle.text_print.specs.Output.{line, field_list, row_fields, row_lines, ok_text, refused_text}
use Rattle.text_answer.specs.Answer.{answer_text, sheet_text, reading_text, printed_of}

abbrev pub blur_line : List ℕ
blur_line = bytes "blur\t0\t0\t2\t1\tsrc\t-4\t0\n"

-- a flood that says no working space
abbrev pub linear_sheet : List ℕ
linear_sheet = bytes "canvas\t1\t1\nflood\t0\t0\t1\t1\t255\t128\t0\t0.5\nrow\t00000000\n"

pub record Printed : Type 0 where
  pub paper :
      printed_of example
      ≡ bytes "ok\nrow\t80007fff\t00000080\n"
  -- Made, the flood is 128, 64, 0 at 128. To linear: unpremultiplied 255, 128, 0, by the table 255, 55, 0, premultiplied 128, 28, 0, which is the
  -- layer. Printed in sRGB: unpremultiplied 28 is 56, by the other table 129, premultiplied 65.
  pub linear : printed_of linear_sheet ≡ bytes "ok\nrow\t80410080\n"
  pub nothing : printed_of [] ≡ refused_text 15 1
  pub stepless : printed_of (canvas_line ++ row_line) ≡ refused_text 3 0
  pub minus : printed_of (canvas_line ++ (blur_line ++ row_line)) ≡ refused_text 9 0

pub printed : Printed
unfolding nearest judged_ratio composited flooded first_invalid remapped to_linear to_srgb differ? converted R.inside patch
    L.replaced L.initial L.rendered work_of paired S.shaped space_of effect_of B.read B.concat accepted? C.first_of C.all C.inputs?
    C.numbers_answer C.step_answer C.sizes_answer C.answer_of T.split T.index_of F.digit_of F.accumulated
    F.digits_of F.natural_of F.hex_of F.fraction_of F.magnitude_of F.numeral_of M.all_fields M.flattened M.padded M.stored M.array_of space_in
    K.first_kind K.merge_inputs K.kind_of P.input_of P.step_as P.step_of
    D.stored_pixels D.canvas_in lines_of X.row? X.line? X.after X.text_lines X.text_of reading_of digit shortest decimal hex_byte
    hex_pixel line field_list row_fields row_lines ok_text refused_text answer_text sheet_text reading_text printed_of
printed = record { paper = refl; linear = refl; nothing = refl; stepless = refl; minus = refl }
