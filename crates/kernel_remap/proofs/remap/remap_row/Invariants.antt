use Prim.Native.Nat.{◌≤◌}
use Rattle.pixel.specs.Bytes.{Painted}
use Rattle.kernel_remap.specs.Remaps.{looked_up_at}
use Rattle.kernel_remap.proofs.remap.remap_row.Given as goal

abbrev pub invariant-loop-x : goal.invariant-loop-x
invariant-loop-x l = (l.x ≤ l.n) × Painted (looked_up_at l.tables l.maps l.src) 0 0 l.x l.initial.dst l.dst
