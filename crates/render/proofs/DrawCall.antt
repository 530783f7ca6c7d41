-- A call by its parts: the steps that are looked at, the checks, the work and the scratch buffer cleared keep the promises. Assumes nothing.
use Prim.Native.Nat.{ℕ, ◌<◌}
use mathlib.Core.Path.{◌≡◌, sym, ap, ◌∙◌, subst}
use mathlib.Core.Bool.{true, false}
use mathlib.Core.List.{List}
use lib.ListN.{length}
use Rattle.std.specs.Prelude.{Result, Ok, Err}
use Rattle.filter.specs.declared.Refusal.{Refusal}
use Rattle.filter.specs.declared.Call.{Call}
use Rattle.filter.specs.declared.Sheet.{Sheet}
use Rattle.filter.specs.declared.Step.{Step}
use Rattle.filter.specs.Answers.{Answer, accepted?}
use Rattle.filter.specs.Checks.{steps_answer}
use Rattle.filter.proofs.PassedChecks.{refused}
use Rattle.filter.specs.Steps.{step_at}
use Rattle.filter.specs.Valid.{FloodBytes}
use Rattle.layers.specs.Given.{Given, giving}
use Rattle.layers.specs.Drawing.{ReadyFor, Drawing}
use Rattle.render.specs.Code.{usable_of, settled, outcome, AllBytes}
use Rattle.render.specs.Promise.{taken, answered, if_accepted, zeros, returned_answer, returned_count}
use Rattle.render.proofs.RefusalOrder.{settled-answer}
use Rattle.render.proofs.AcceptedIsReady.{all-used, ready_for}
use Rattle.render.proofs.PromisesKept.{Promised, promised, with}

-- of the list's n steps that count the first k are looked at
module _ (call : Call) (s : Sheet) (steps : List Step) (src ws scr : List ℕ) (n k : ℕ) (checked a : Answer) (n-is : n ≡ taken s steps) (k-is : k ≡ usable_of n)
    (checked-is : checked ≡ steps_answer s.width s.height steps k) (a-is : a ≡ settled call s n checked src ws (length scr)) where
  abbrev g : Given
  g = giving call s steps src ws scr

  used : k ≡ usable_of (taken s steps)
  used = k-is ∙ ap usable_of n-is

  pub answer-is : a ≡ answered g
  answer-is =
      a-is
      ∙ ap (λ (m : ℕ). settled call s m checked src ws (length scr)) n-is
      ∙ settled-answer call s (taken s steps) checked src ws (length scr) steps (checked-is ∙ ap (steps_answer s.width s.height steps) used)

  accepted-is : accepted? a ≡ true → accepted? (answered g) ≡ true
  accepted-is t = ap accepted? (sym answer-is) ∙ t

  all : accepted? a ≡ true → usable_of (taken s steps) ≡ taken s steps
  all t = all-used call s steps (taken s steps) src ws scr (accepted-is t)

  -- h is the sheet with so many steps; the checks leave the buffers as they are
  module _ (small : AllBytes src) (tiny : AllBytes ws) (floods : (i : ℕ) → i < k → FloodBytes (step_at steps i).kind)
      (h : Sheet) (h-is : h ≡ with s k) (ws' scr' : List ℕ) (ws-is : ws' ≡ ws) (scr-is : scr' ≡ scr) where
    ready-all : accepted? a ≡ true → ReadyFor call (with s (taken s steps)) steps src ws scr
    ready-all t = ready_for call s steps (taken s steps) src ws scr (accepted-is t) small tiny (λ i l. floods i (rw used l))

    pub steps-ready : accepted? a ≡ true → ReadyFor call h steps src ws' scr'
    steps-ready t = rw (h-is, ws-is, scr-is, used, all t) (ready-all t)

    -- z is the scratch buffer after the work, z' after it was cleared
    pub call-kept : (d z z' : List ℕ) (total : ℕ) → Drawing (giving call h steps src ws' scr') a d z total
        → z' ≡ if_accepted a (zeros z) z → Promised g a total d z'
    call-kept d z z' total D z-is =
        promised call s steps src ws scr a d z total z' answer-is all ready-all (rw (h-is, ws-is, scr-is, used) at D) z-is

    -- and the result, which a refusal ends with no pixel worked
    pub result-kept : (d z z' : List ℕ) (total : ℕ) (r : Result ℕ Refusal) → Drawing (giving call h steps src ws' scr') a d z total
        → r ≡ outcome a total → z' ≡ if_accepted a (zeros z) z → Promised g (returned_answer r) (returned_count r) d z'
    result-kept d z z' total r D r-is z-is = rw r-is (go a (call-kept d z z' total D z-is) (λ t. (D.refused t).2))
      where
        go : (b : Answer) → Promised g b total d z' → (accepted? b ≡ false → total ≡ 0) → Promised g (returned_answer (outcome b total)) (returned_count (outcome b total)) d z'
        go (Ok u) P none = P
        go (Err e) P none = subst (λ (m : ℕ). Promised g (Err e) m d z') (none (refused e)) P
