-- The refusal table, check after check. Assumes nothing.
use Prim.Native.Nat.{ℕ, ◌*◌}
use mathlib.Core.Path.{◌≡◌, refl, sym, ap, ◌∙◌}
use mathlib.Core.Bool.{Bool, true, false}
use mathlib.Core.List.{List}
use native.Mathlib.Omega.{arith}
use native.Mathlib.Nat.{mul_left_comm}
use lib.Dec.{leb}
use lib.ListN.{length}
use borrow.Author.Tests.{eq-eqb, ne_eqb, leb-false}
use Rattle.pixel.specs.Bytes.{first_invalid}
use Rattle.std.specs.Prelude.{Ok, Err}
use Rattle.filter.specs.declared.Refusal.TheVariants as A
use Rattle.filter.specs.declared.Call.{Call}
use Rattle.filter.specs.declared.Sheet.{Sheet}
use Rattle.filter.specs.declared.Step.{Step}
use Rattle.filter.specs.Answers.{Answer, accepted?}
use Rattle.filter.specs.Bytes.{size}
use Rattle.filter.specs.Checks.{or_else, sizes_answer, rectangle_answer, steps_answer, pixels_answer, contents_answer, answer_of}
use Rattle.filter.specs.Limits.{most_steps}
use Rattle.filter.proofs.PassedChecks.{else-accepted}
use Rattle.checks.proofs.Acceptance.{accepted-sizes}
use Rattle.render.specs.Code.{usable_of, settled}

-- 14
pub pixels-good : (d : List ℕ) (n p : ℕ) → p ≡ first_invalid d n → p ≡ n → Ok tt ≡ pixels_answer d n
pixels-good d n p e q = rw (eq-eqb (first_invalid d n) n (sym e ∙ q))

pub pixels-bad : (d : List ℕ) (n p : ℕ) → p ≡ first_invalid d n → ¬ (p ≡ n) → Err (A.AboveAlpha p) ≡ pixels_answer d n
pixels-bad d n p e q = rw (ne_eqb (first_invalid d n) n (λ k. q (e ∙ k))) (ap (λ (m : ℕ). Err (A.AboveAlpha m)) e)

-- the workspace as rows of w pixels
pub pixels-in : (w h count : ℕ) → count * size w h ≡ 4 * (w * (count * h))
pixels-in w h count = mul_left_comm count 4 (w * h) ∙ ap (λ (n : ℕ). 4 * n) (mul_left_comm count w h)

else-refused : (a b : Answer) → accepted? a ≡ false → or_else a b ≡ a
else-refused a b e = rw e

module _ (call : Call) (s : Sheet) (n : ℕ) (checked : Answer) (src ws : List ℕ) (scratch : ℕ) where
  abbrev sizes : Answer
  sizes = sizes_answer s.width s.height n (length src) (length ws) scratch

  -- where a sheet may not have so many steps, they are not looked at, and the answer is an earlier one
  pub settled-answer : (steps : List Step) → checked ≡ steps_answer s.width s.height steps (usable_of n)
      → settled call s n checked src ws scratch ≡ answer_of s.width s.height steps n call src ws scratch
  unfolding settled answer_of
  settled-answer steps f = go (leb n most_steps) refl
    where
      rest : Answer → Answer
      rest c = or_else (rectangle_answer s.width s.height call) (or_else c (contents_answer s.width s.height n src ws call))

      refused : leb n most_steps ≡ false → (t : Bool) → accepted? sizes ≡ t → accepted? sizes ≡ false
      refused e true g = let k = (accepted-sizes s.width s.height n (length src) (length ws) scratch g).few in absurd (omega (arith, k, leb-false n most_steps e))
      refused e false g = g

      go : (t : Bool) → leb n most_steps ≡ t → or_else sizes (rest checked) ≡ or_else sizes (rest (steps_answer s.width s.height steps n))
      go true e = ap (λ (c : Answer). or_else sizes (rest c)) (rw e at f)
      go false e = let g = refused e (accepted? sizes) refl in else-refused _ _ g ∙ sym (else-refused _ _ g)
