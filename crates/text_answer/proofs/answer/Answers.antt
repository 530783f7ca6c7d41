-- `text_answer::answer` meets its contract. Assumes nothing.
use mathlib.Core.Path.{refl, sym}
use native.Mathlib.Omega.{arith}
use lib.Seq.{length-take-le}
use Rattle.std.specs.Prelude.{Result, Ok, Err, IfOk}
use Rattle.text.specs.declared.Reading.{Reading}
use Rattle.text.specs.declared.TextRefusal.{TextRefusal}
use Rattle.text_answer.specs.Code.{ReadingWithin}
use Rattle.text.specs.declared.Form.TheVariants as F
use Rattle.filter.specs.Limits.{most_steps}
use Rattle.text.proofs.ReadingBounded.{ReadingBounded, reading-bounded}
use Rattle.text_answer.proofs.Printed.{put-fits, printed-length, printed-stored, printed-kept}
use Rattle.text_answer.proofs.answer.Goals as goal

within : (r : Result Reading TextRefusal) → IfOk r ReadingBounded → IfOk r ReadingWithin
within (Ok r) B = record { wide = B.wide; high = B.high; few = B.few; pixels = B.pixels }
within (Err e) B = tt

pub print_reading-n-requires : goal.print_reading-n-requires
print_reading-n-requires c =
    let e = c.scan.ensures in
    (e, rw e (within _ (reading-bounded F.Sheet c.args.text.now most_steps)), refl)

pub slice_bounds-printed-end : goal.slice_bounds-printed-end
slice_bounds-printed-end c = put-fits c.print_reading-n.ensures

pub slice_bounds-put_word-end : goal.slice_bounds-put_word-end
slice_bounds-put_word-end c = sym (length-take-le _ _ (put-fits c.print_reading-n.ensures))

pub put_word-requires : goal.put_word-requires
put_word-requires c = omega (arith, length-take-le c.print_reading-n.result c.print_reading-n.new.out (put-fits c.print_reading-n.ensures))

pub returns-then-n-out : goal.returns-then-n-out
returns-then-n-out c =
    let e = c.scan.ensures in
    let p = c.print_reading-n.ensures in
    record { long = printed-length _ e p; enough = omega (arith, put-fits p); printed = printed-stored _ e p c.args.out.now c.if-n-out.true c.put_word.ensures }

pub returns-else-n-out : goal.returns-else-n-out
returns-else-n-out c =
    let e = c.scan.ensures in
    let p = c.print_reading-n.ensures in
    record { long = printed-length _ e p; enough = omega (arith, put-fits p); printed = printed-kept _ e p _ c.if-n-out.false }
