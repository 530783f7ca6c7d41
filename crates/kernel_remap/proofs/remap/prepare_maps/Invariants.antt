use mathlib.Core.Path.{◌≡◌}
use Prim.Native.Nat.{◌≤◌}
use lib.ListN.{length}
use Rattle.kernel_remap.proofs.Remaps.{TablesFilled}
use Rattle.kernel_remap.proofs.remap.prepare_maps.Given as goal

abbrev pub invariant-loop-a : goal.invariant-loop-a
invariant-loop-a l = (l.a ≤ 256) × (length l.line ≡ 256) × (length l.tables ≡ 196608) × TablesFilled l.to l.inner l.maps l.a l.tables
