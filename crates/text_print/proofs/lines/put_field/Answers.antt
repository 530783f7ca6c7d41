-- `text_print::lines::put_field` meets its contract. Assumes nothing.
use mathlib.Core.Path.{ap}
use mathlib.Core.List.{◌∷◌}
use native.Mathlib.Omega.{arith}
use Rattle.pixel.specs.declared.Pixel.{Pixel}
use Rattle.text_print.specs.Digits.{hex_pixel}
use Rattle.text_print.proofs.PutTexts.{put_as, put_then}
use Rattle.text_print.proofs.DecimalDigits.{hex-length}
use Rattle.text_print.proofs.lines.put_field.Goals as goal

pub returns : goal.returns
returns c =
    let p = c.convert in
    put_as (put_then c.put_byte-end.ensures c.put_pixel.ensures (omega (arith, hex-length p.result))) _
    (ap (λ (x : Pixel). 9 ∷ hex_pixel x) p.ensures)
