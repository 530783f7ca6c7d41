use Prim.Native.Nat.{◌*◌, ◌≤◌}
use Rattle.pixel.specs.Bytes.{pixel_at, Painted}
use Rattle.pixel.specs.Remap.{remapped}
use Rattle.pixel.specs.Space.{space_maps}
use Rattle.kernel_remap.proofs.few.convert_few.Given as goal

abbrev pub invariant-loop-x : goal.invariant-loop-x
invariant-loop-x l = (l.x ≤ l.count) × Painted (λ j. remapped (space_maps l.to) (pixel_at l.initial.row (4 * j))) 0 0 l.x l.initial.row l.row
