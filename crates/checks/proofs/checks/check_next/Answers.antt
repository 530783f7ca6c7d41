-- `checks::checks::check_next` meets its contract: a flood's colours are bytes by the type of the step. Assumes nothing.
use Rattle.filter.proofs.TypeFacts.{step-bytes}
use Rattle.checks.proofs.checks.check_next.Goals as goal

pub returns-in_err-answer-clause-flood_bytes : goal.returns-in_err-answer-clause-flood_bytes
returns-in_err-answer-clause-flood_bytes c = step-bytes c.args.step _ c.well_formed.1.1.1.1.0

pub returns-clause-flood_bytes : goal.returns-clause-flood_bytes
returns-clause-flood_bytes c = step-bytes c.args.step _ c.well_formed.1.1.1.1.0
