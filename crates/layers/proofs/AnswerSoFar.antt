-- The loop over the checks: the answer after one step more. Assumes nothing.
use Prim.Native.Nat.{ℕ, suc, ◌+◌, ◌<◌, ◌≤◌}
use lib.ListN.{length, take, get_or, length-take}
use lib.Seq.{get_or-take}
use Rattle.std.proofs.lemmas.List.{get_or_default}
use mathlib.Core.Path.{◌≡◌, refl, sym, ap, ◌∙◌}
use mathlib.Core.List.{List}
use native.Mathlib.Omega.{arith}
use native.Mathlib.Decide.{ℕ_discrete}
use Rattle.filter.specs.declared.Step.{Step}
use Rattle.std.specs.Prelude.{Ok, Err, Bool, true, false, is_err}
use mathlib.Core.Bool.{false≢true}
use Rattle.filter.specs.Answers.{Answer, accepted?}
use Rattle.filter.proofs.PassedChecks.{refused}
use Rattle.filter.specs.Steps.{step_at}
use Rattle.filter.specs.Checks.{or_else, first_of, step_answer, steps_answer}
use Rattle.filter.specs.Valid.{FloodBytes}

module _ (w h : ℕ) (steps : List Step) where
  -- what holds after n steps
  pub record Answered (n : ℕ) (answer : Answer) : Type 0 where
    pub is : answer ≡ steps_answer w h steps n
    pub floods : (k : ℕ) → k < n → FloodBytes (step_at steps k).kind

  pub answered-none : Answered 0 (Ok tt)
  unfolding first_of
  answered-none = record { is = refl; floods = λ k l. absurd (omega arith) }

  pub answered-more : (n : ℕ) (answer : Answer) → Answered n answer → (s : Step) → s ≡ step_at steps n → (next : Answer) → next ≡ or_else answer (step_answer w h n s)
      → FloodBytes s.kind → Answered (n + 1) next
  unfolding first_of
  answered-more n answer G s same next e f = record {
    is =
        (rw same at e)
        ∙ ap (λ (a : Answer). or_else a (step_answer w h n (step_at steps n))) G.is
        ∙ ap (steps_answer w h steps) (let q : suc n ≡ n + 1 = omega arith in q);
    floods = λ k l. go k l (ℕ_discrete k n);
  }
    where
      go : (k : ℕ) → k < n + 1 → Dec (k ≡ n) → FloodBytes (step_at steps k).kind
      go k l (yes q) = rw q (rw same at f)
      go k l (no ne) = G.floods k (omega arith)

-- what the code's test of an answer says
pub is-refused : (a : Answer) {b : Bool} → b ≡ is_err a → b ≡ true → accepted? a ≡ false
is-refused (Ok u) e t = absurd (false≢true (sym e ∙ t))
is-refused (Err f) e t = refused f

pub is-accepted : (a : Answer) {b : Bool} → b ≡ is_err a → b ≡ false → accepted? a ≡ true
unfolding accepted?
is-accepted (Ok u) e t = refl
is-accepted (Err f) e t = absurd (false≢true (sym t ∙ e))

-- the steps that count are the first of the list
module _ (count n : ℕ) (steps : List Step) (enough : count ≤ length steps) where
  pub step-taken : (d : Step) → n < length (take count steps) → get_or (take count steps) n d ≡ step_at steps n
  step-taken d l =
      get_or-take count steps n d (omega (arith, length-take count steps)) ∙ get_or_default steps n d _ (omega (arith, length-take count steps))

  pub below-taken : n < length (take count steps) → n < count
  below-taken l = omega (arith, length-take count steps)

  pub all-taken : n ≤ length (take count steps) → length (take count steps) ≤ n → n ≡ count
  all-taken k l = omega (arith, length-take count steps)
