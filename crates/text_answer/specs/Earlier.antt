-- What a reader of some limits prints. Assumes nothing.
use Rattle.std.specs.Prelude.{cond, List, ℕ}
use Rattle.text.specs.declared.Form.TheVariants as F
use Rattle.text.specs.Texts.{Limits, Text}
use Rattle.text.specs.Reading.{text_in}
use Rattle.text_print.specs.Output.{refused_text}

-- one line of `refused` for a text that it does not take; whatever it draws of one that it takes
abbrev pub printed_within : Limits → (Text → List ℕ) → List ℕ → List ℕ
printed_within lim drawn s = cond (text_in lim F.Sheet s).good (drawn (text_in lim F.Sheet s)) (refused_text 15 (text_in lim F.Sheet s).line)
