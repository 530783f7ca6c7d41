-- The working space of a text's last step, as it is read from the text and as its list of steps has it. Assumes nothing.
use mathlib.Core.Path.{◌≡◌, sym, ap, ◌∙◌}
use mathlib.Core.List.{List, ◌++◌}
use Prim.Native.Nat.{ℕ, ◌-◌, ◌≤◌, ◌<◌}
use native.Mathlib.Omega.{arith}
use lib.ListN.{length, get_or, take, drop, replicate, get_or-append}
use lib.Seq.{get_or-take, length-take-le}
use Rattle.filter.specs.declared.Step.{Step}
use Rattle.filter.specs.Limits.{most_steps}
use Rattle.filter.specs.Steps.{blank_step, step_at}
use Rattle.text.specs.declared.Form.TheVariants as F
use Rattle.std.specs.Prelude.{Ok}
use Rattle.text.specs.declared.Reading.{Reading}
use Rattle.text.specs.Reading.{steps_in, first_line, count_of}
use Rattle.text.proofs.Stepped.{Read, read-is}
use Rattle.lines.specs.Lines.{reading_in}
use Rattle.text_answer.specs.Answer.{last_space}

-- a text that is read
module _ (s : List ℕ) (r : Reading) (is : reading_in F.Sheet s ≡ Ok r) where
  reads : Read F.Sheet s most_steps r
  reads = read-is F.Sheet s most_steps is

  pub some-steps : r.count ≤ length (steps_in F.Sheet s)
  some-steps = reads.1

  pub some_first : 0 < r.count → r.from ≡ first_line F.Sheet s
  some_first h = reads.2 h

  -- the list has the steps of the text
  pub some-space : 0 < r.count → (get_or (steps_in F.Sheet s) (r.count - 1) blank_step).space ≡ last_space s r.count
  some-space h =
      let n = r.count in
      let xs : List Step = steps_in F.Sheet s in
      let l : n - 1 < length (take n xs) = omega (arith, length-take-le n xs some-steps) in
      ap (λ (x : Step). x.space)
      (sym (get_or-take n xs (n - 1) blank_step (omega arith)) ∙ sym (get_or-append (take n xs) (drop n (replicate most_steps blank_step)) blank_step (n - 1) l)
      ∙ ap (λ (k : ℕ). step_at (take k xs ++ drop k (replicate most_steps blank_step)) (n - 1)) (sym (ap count_of is)))
