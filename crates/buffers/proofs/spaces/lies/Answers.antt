use Rattle.std.proofs.Common.{rules}
use Rattle.buffers.specs.Seen.{lies?}
use Rattle.buffers.proofs.spaces.lies.Goals as goal

pub returns-then-matches : goal.returns-then-matches
unfolding lies?
returns-then-matches c = search rules

pub returns-else-matches : goal.returns-else-matches
unfolding lies?
returns-else-matches c = search rules
