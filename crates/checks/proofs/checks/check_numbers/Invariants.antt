use Rattle.std.proofs.Common.{◌≡◌, Ok}
use Rattle.filter.specs.Checks.{first_of, number_answer}
use Rattle.filter.specs.Signature.{range_in}
use Rattle.filter.specs.Steps.{number_at}
use Rattle.number.specs.Number.{judged}
use Rattle.checks.proofs.checks.check_numbers.Given as goal

abbrev pub invariant-loop-i : goal.invariant-loop-i
invariant-loop-i l = first_of (λ k. number_answer l.n (judged (range_in l.numbers k) (number_at l.step k))) l.i ≡ Ok tt
