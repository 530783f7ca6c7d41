-- "Old readers refuse a new sheet .. and never draw part of it": what they print of a sheet with more steps is one line. Assumes nothing.
use Prim.Native.Nat.{ℕ, ◌<◌}
use mathlib.Core.Path.{◌≡◌}
use mathlib.Core.Bool.{true}
use mathlib.Core.List.{List}
use lib.ListN.{length}
use Rattle.text.specs.declared.Form.TheVariants as F
use Rattle.text.specs.Texts.{Text, current, earlier}
use Rattle.text.specs.Reading.{text_in, earlier_place}
use Rattle.text.proofs.Compatible.{earlier-refuses}
use Rattle.text_print.specs.Output.{refused_text}
use Rattle.text_answer.specs.Earlier.{printed_within}

pub earlier-prints : (drawn : Text → List ℕ) (s : List ℕ) → (text_in current F.Sheet s).good ≡ true → earlier.steps < length (text_in current F.Sheet s).steps
    → printed_within earlier drawn s ≡ refused_text 15 (earlier_place F.Sheet s)
earlier-prints drawn s g l = rw (earlier-refuses F.Sheet s g l)
