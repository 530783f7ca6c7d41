-- What the functions pass on to each other. No promise to a caller cites it. Assumes nothing.
use Rattle.std.specs.Prelude.{ℕ, ◌<◌, cond, List, leb, length, get_or, Result, Ok, Err}
use Rattle.filter.specs.declared.Refusal.{Refusal}
use Rattle.filter.specs.Answers.{Answer}
use Rattle.filter.specs.declared.Call.{Call}
use Rattle.filter.specs.declared.Sheet.{Sheet}
use Rattle.filter.specs.Checks.{or_else, sizes_answer, rectangle_answer, contents_answer}
use Rattle.filter.specs.Limits.{most_steps}

-- n where a sheet may have so many steps, else none
abbrev pub usable_of : ℕ → ℕ
usable_of n = cond (leb n most_steps) n 0

-- the answer to a call for n steps, where `checked` is that of the steps
unfoldable pub settled : Call → Sheet → ℕ → Answer → List ℕ → List ℕ → ℕ → Answer
settled call s n checked src ws scratch =
    or_else (sizes_answer s.width s.height n (length src) (length ws) scratch)
    (or_else (rectangle_answer s.width s.height call)
    (or_else checked (contents_answer s.width s.height n src ws call)))

-- what a call with this answer gives back after so many pixels
abbrev pub outcome : Answer → ℕ → Result ℕ Refusal
outcome (Ok u) n = Ok n
outcome (Err e) n = Err e

-- what a slice of bytes holds
abbrev pub AllBytes : List ℕ → Type 0
AllBytes d = (i : ℕ) → get_or d i 0 < 256
