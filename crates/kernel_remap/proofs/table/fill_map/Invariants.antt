use Rattle.std.proofs.Common.{◌≡◌, ℕ, ◌<◌, get_or}
use Rattle.pixel.specs.Space.{table_of}
use Rattle.kernel_remap.proofs.table.fill_map.Given as goal

abbrev pub invariant-loop-c : goal.invariant-loop-c
invariant-loop-c l = (k : ℕ) → k < l.c → get_or l.map k 0 ≡ get_or (table_of l.to) k 0
