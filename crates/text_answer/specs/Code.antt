-- What the functions pass on to each other. No promise to a caller cites it. Assumes nothing.
use Rattle.std.specs.Prelude.{◌≡◌, List, ℕ, ◌-◌, ◌*◌, ◌≤◌, length}
use Rattle.pixel.specs.declared.Space as S
use Rattle.text.specs.declared.Reading.{Reading}
use Rattle.filter.specs.Answers.{Answer}
use Rattle.filter.specs.Bytes.{size, read}
use Rattle.filter.specs.Limits.{most_steps, longest_text_side, text_picture}
use Rattle.text_print.specs.Output.{in_srgb}
use Rattle.text_answer.specs.Answer.{answer_text}

-- every reading is within these bounds
pub record ReadingWithin (r : Reading) : Type 0 where
  pub wide : r.width ≤ longest_text_side
  pub high : r.height ≤ longest_text_side
  pub few : r.count ≤ most_steps
  pub pixels : length r.pixels ≡ text_picture

-- an answer's text, from a workspace of n layers whose last is kept in the space s
abbrev pub answer_from : Answer → S.Space → ℕ → ℕ → ℕ → List ℕ → List ℕ
answer_from a s w h n d = answer_text a w h (in_srgb s (read w h d ((n - 1) * size w h)))
