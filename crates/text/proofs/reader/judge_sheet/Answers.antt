-- `text::reader::judge_sheet` meets its contract. By the length, the first line feed and the canvas line. Assumes nothing.
use mathlib.Core.Path.{refl, sym}
use borrow.Author.Rules.{rules}
use Rattle.text.proofs.LineAdded.{sized-empty, canvas-small}
use Rattle.text.proofs.LinesScanned.{text-long, text-open, text-canvas, text-lines}
use Rattle.text.proofs.reader.judge_sheet.Goals as goal

pub returns-then-text-gt-TEXT : goal.returns-then-text-gt-TEXT
returns-then-text-gt-TEXT c = text-long _ c.if-text-gt-TEXT.true refl

pub returns-then-text-e : goal.returns-then-text-e
returns-then-text-e c = text-open _ _ (search rules) c.find-e.ensures (search rules) refl

pub returns-in_default : goal.returns-in_default
returns-in_default c = text-canvas _ _ (search rules) c.find-e.ensures c.if-text-e.false (sym c.in_default.ensures) refl

pub lines_of-requires : goal.lines_of-requires
lines_of-requires c =
    let s = canvas-small _ (sym c.in-Some.ensures) in
    (search rules, search rules, rw c.empty.ensures (sized-empty _ _ s.0 s.1))

pub returns : goal.returns
returns c = text-lines _ _ (search rules) c.find-e.ensures c.if-text-e.false (sym c.in-Some.ensures) c.empty.ensures c.lines_of.ensures
