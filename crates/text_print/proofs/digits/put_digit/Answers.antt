-- `text_print::digits::put_digit` meets its contract. Assumes nothing.
use mathlib.Core.Path.{ap}
use mathlib.Core.List.{[], ◌∷◌}
use Prim.Native.Nat.{ℕ}
use Rattle.text_print.proofs.PutTexts.{put_as}
use Rattle.text_print.proofs.digits.put_digit.Goals as goal

pub returns : goal.returns
returns c = put_as c.put_byte.ensures _ (ap (λ (x : ℕ). x ∷ []) c.digit.ensures)
