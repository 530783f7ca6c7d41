use Rattle.std.proofs.Common.{◌≡◌, ◌+◌, ◌*◌, ◌≤◌}
use Rattle.pixel.specs.Bytes.{first_invalid}
use Rattle.kernel_row.proofs.scan.first_invalid.Given as goal

abbrev pub invariant-loop-x : goal.invariant-loop-x
invariant-loop-x l = (l.x ≤ l.w) × (l.found ≡ l.w * l.h) × (first_invalid l.s (l.p + l.x) ≡ l.p + l.x)

abbrev pub invariant-rows : goal.invariant-rows
invariant-rows l = (l.y ≤ l.h) × (l.p ≡ l.y * l.w) × (l.found ≡ l.w * l.h) × (first_invalid l.s l.p ≡ l.p)
