-- Printed text, computed from the rules. Assumes nothing.
use Rattle.std.specs.Prelude.{◌≡◌, refl, cond, eqb}
use Rattle.pixel.specs.Alpha.{pixel}
use Rattle.text_field.specs.Words.{bytes}
use Rattle.filter.specs.Bytes as B
use Rattle.filter.specs.Picture.{Picture}
use Rattle.text_print.specs.Digits.{digit, shortest, decimal, hex_byte, hex_pixel}
use Rattle.text_print.specs.Output.{line, field_list, row_fields, row_lines, ok_text, refused_text}

-- the last layer of the example of RULES 9.9
abbrev pub picture : Picture
picture x y = cond (eqb x 0) (pixel 128 0 127 255) (pixel 0 0 0 128)

pub record Printed : Type 0 where
  pub none : decimal 0 ≡ bytes "0"
  pub ten : decimal 10 ≡ bytes "10"
  pub hundreds : decimal 255 ≡ bytes "255"
  pub ok :
      ok_text 2 1 picture
      ≡ bytes "ok\nrow\t80007fff\t00000080\n"
  pub refused : refused_text 15 4 ≡ bytes "refused\t15\t4\n"

pub printed : Printed
unfolding B.concat digit shortest decimal hex_byte hex_pixel line field_list row_fields row_lines ok_text refused_text
printed = record { none = refl; ten = refl; hundreds = refl; ok = refl; refused = refl }
