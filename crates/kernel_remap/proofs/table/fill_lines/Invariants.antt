use mathlib.Core.Path.{◌≡◌}
use Prim.Native.Nat.{◌≤◌}
use lib.ListN.{length}
use Rattle.kernel_remap.proofs.TableLines.{Begun}
use Rattle.kernel_remap.proofs.table.fill_lines.Given as goal

abbrev pub invariant-loop-a : goal.invariant-loop-a
invariant-loop-a l = (1 ≤ l.a) × (l.a ≤ 256) × (length l.line ≡ 256) × (length l.table ≡ 65536) × Begun l.to l.a l.table
