-- `text_answer::print_read` meets its contract. Assumes nothing.
use mathlib.Core.Path.{sym, ap}
use Prim.Native.Nat.{ℕ}
use native.Mathlib.Omega.{arith}
use lib.ListN.{take}
use lib.Seq.{length-take-le}
use Rattle.text.specs.Reading.{count_of}
use Rattle.text_print.proofs.PutTexts.{put_as}
use Rattle.text_answer.specs.Answer.{sheet_text}
use Rattle.text_answer.proofs.BuffersSuffice.{size-le}
use Rattle.text_answer.proofs.print_read.Goals as goal

pub slice_bounds-pixels-end : goal.slice_bounds-pixels-end
slice_bounds-pixels-end c =
    omega (arith, size-le c.args.reading.width c.args.reading.height c.picture_size-n.ensures.0 c.requires.1.wide c.requires.1.high, c.requires.1.pixels)

pub slice_bounds-print_sheet-end : goal.slice_bounds-print_sheet-end
slice_bounds-print_sheet-end c =
    sym (length-take-le _ _ (omega (arith, size-le c.args.reading.width c.args.reading.height c.picture_size-n.ensures.0 c.requires.1.wide c.requires.1.high, c.requires.1.pixels)))

pub print_sheet-requires : goal.print_sheet-requires
print_sheet-requires c =
    record { width_le_longest_text_side = (c.requires.1.wide, c.requires.1.high, sym (ap count_of c.requires.0)); count_le_most_steps = (c.requires.1.few, c.requires.2, c.space_of-space.ensures) }

pub returns : goal.returns
returns c =
    let r = c.args.reading in
    put_as c.print_sheet.ensures _ (ap (λ (n : ℕ). sheet_text c.args.text.now r.width r.height r.count (take n r.pixels)) c.picture_size-n.ensures.0)
