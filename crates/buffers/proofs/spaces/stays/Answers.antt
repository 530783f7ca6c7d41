use Rattle.std.proofs.Common.{rules}
use Rattle.buffers.specs.Seen.{stays?}
use Rattle.buffers.proofs.spaces.stays.Goals as goal

pub returns-then-matches : goal.returns-then-matches
unfolding stays?
returns-then-matches c = search rules

pub returns-else-matches : goal.returns-else-matches
unfolding stays?
returns-else-matches c = search rules
