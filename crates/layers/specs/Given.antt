-- What a call is given: its sheet, the list of steps, and the bytes of the buffers as they are lent. Assumes nothing.
use Rattle.std.specs.Prelude.{ℕ, List}
use Rattle.std.specs.Borrow.{Bor, MutBor}
use denote.Triple.Both.{Both}
use Rattle.filter.specs.declared.Call.{Call}
use Rattle.filter.specs.declared.Sheet.{Sheet}
use Rattle.filter.specs.declared.Step.{Step}

pub record Given : Type 0 where
  pub call : Call
  pub sheet : Sheet
  pub steps : List Step
  pub source : List ℕ
  pub workspace : List ℕ
  pub scratch : List ℕ

-- by its parts
abbrev pub giving : Call → Sheet → List Step → List ℕ → List ℕ → List ℕ → Given
giving call sheet steps src ws scr = record { call = call; sheet = sheet; steps = steps; source = src; workspace = ws; scratch = scr }

-- a slice as an `ensures` names it: before the call and after it; a `&[X]` and a `&mut [X]`
abbrev pub Slice : Type 0 → Type 0
Slice X = Both (Bor (List X)) (Bor (List X))

abbrev pub SliceMut : Type 0 → Type 0
SliceMut X = Both (MutBor (List X)) (MutBor (List X))

-- by the names in an `ensures`: everything as it was before the call
abbrev pub given : Call → Sheet → Slice Step → Slice ℕ → SliceMut ℕ → SliceMut ℕ → Given
given call sheet steps source workspace scratch =
    giving call sheet steps.entry.now source.entry.now workspace.entry.now scratch.entry.now
