use Prim.Native.Nat.{◌-◌}
use lib.ListN.{length, drop}
use Rattle.text_field.specs.Split.{split}
use Rattle.text.specs.Code.{DocumentFits, extends?, extended, ended, refused_at, document_lines}
use Rattle.text.proofs.LinesScanned.{Scanned}
use Rattle.text.proofs.reader.lines_of.Given as goal

abbrev pub invariant-loop-e : goal.invariant-loop-e
invariant-loop-e l = Scanned extends? extended (ended l.from) refused_at l.s (document_lines l.from l.initial.document l.first (split 10 (drop l.from l.s))) l.at l.document l.line l.e × DocumentFits l.document

abbrev pub decreases-loop-e : goal.decreases-loop-e
decreases-loop-e l = length l.s - l.e
