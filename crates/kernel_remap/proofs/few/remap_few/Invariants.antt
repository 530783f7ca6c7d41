use Prim.Native.Nat.{◌*◌, ◌≤◌}
use Rattle.pixel.specs.Bytes.{pixel_at, Painted}
use Rattle.pixel.specs.Remap.{remapped}
use Rattle.kernel_remap.specs.Remaps.{maps_in}
use Rattle.kernel_remap.proofs.few.remap_few.Given as goal

abbrev pub invariant-loop-x : goal.invariant-loop-x
invariant-loop-x l = (l.x ≤ l.n) × Painted (λ j. remapped (maps_in l.maps) (pixel_at l.src (4 * j))) 0 0 l.x l.initial.dst l.dst
