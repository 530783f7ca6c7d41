use Rattle.std.proofs.Common.{◌≡◌, ◌<◌}
use Rattle.tables.specs.Content.{sum_of}
use Rattle.tables.proofs.content.sum.Given as goal

abbrev pub invariant-loop-byte : goal.invariant-loop-byte
invariant-loop-byte l = (l.sum < 4294967291) × (l.sum ≡ sum_of l.bytes l.byte-index)
