-- `text_answer::print_reading` meets its contract, for a reading and for each refusal. Assumes nothing.
use borrow.Author.Rules.{rules}
use Rattle.std.proofs.Common.{◌≡◌, ℕ, List, Err}
use Rattle.text.specs.declared.TextRefusal.{TextRefusal}
use Rattle.text.specs.declared.TextRefusal.TheVariants.{Line, Records}
use Rattle.text_print.specs.Output.{refused_text}
use Rattle.text_print.proofs.PutTexts.{put_as}
use Rattle.text_answer.specs.Answer.{reading_text}
use Rattle.text_answer.proofs.BuffersSuffice.{refused-room}
use Rattle.text_answer.proofs.print_reading.Goals as goal

pub put_refused-requires : goal.put_refused-requires
put_refused-requires c = refused-room _ _ _ (search rules) (search rules) c.requires.2

pub put_refused-requires-in-Err-Records : goal.put_refused-requires-in-Err-Records
put_refused-requires-in-Err-Records c = refused-room _ _ _ (search rules) (search rules) c.requires.2

pub returns-in-Ok : goal.returns-in-Ok
unfolding reading_text
returns-in-Ok c = rw c.in-Ok.is c.print_read.ensures

line-printed : (s : List ℕ) (e : TextRefusal) (n : ℕ) → e ≡ Line n → refused_text 15 n ≡ reading_text s (Err e)
unfolding reading_text
line-printed s e n q = rw q

records-printed : (s : List ℕ) (e : TextRefusal) → e ≡ Records → refused_text 21 0 ≡ reading_text s (Err e)
unfolding reading_text
records-printed s e q = rw q

pub returns-in-Err-Line : goal.returns-in-Err-Line
returns-in-Err-Line c = rw c.in-Err-Line.is (put_as c.put_refused.ensures _ (line-printed _ _ _ (search rules)))

pub returns-in-Err-Records : goal.returns-in-Err-Records
returns-in-Err-Records c = rw c.in-Err-Records.is (put_as c.put_refused-in-Err-Records.ensures _ (records-printed _ _ (search rules)))
