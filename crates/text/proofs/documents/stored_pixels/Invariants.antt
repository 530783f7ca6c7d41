use mathlib.Core.Path.{◌≡◌}
use lib.ListN.{length, drop}
use Rattle.text_field.specs.Split.{split}
use Rattle.filter.specs.Limits.{text_picture}
use Rattle.text.specs.Document.{pixel?, pixel_of}
use Rattle.text_step.proofs.FieldsGathered.{FieldsGathered}
use Rattle.text.proofs.LineAdded.{held}
use Rattle.text.proofs.documents.stored_pixels.Given as goal

abbrev pub invariant-loop-i : goal.invariant-loop-i
invariant-loop-i l = FieldsGathered pixel? pixel_of (held l.fn.start l.at) (drop 1 (split 9 l.line)) l.n l.i l.pixels × (length l.pixels ≡ text_picture)
