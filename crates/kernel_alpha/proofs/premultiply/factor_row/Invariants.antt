use Prim.Native.Nat.{◌+◌, ◌*◌, ◌≤◌}
use lib.ListN.{get_or}
use Rattle.pixel.specs.Bytes.{Painted}
use Rattle.kernel_alpha.specs.Code.{factors}
use Rattle.kernel_alpha.proofs.premultiply.factor_row.Given as goal

abbrev pub invariant-loop-x : goal.invariant-loop-x
invariant-loop-x l = (l.x ≤ l.n) × Painted (λ z. factors (get_or l.d (4 * z + 3) 0)) 0 0 l.x l.initial.f l.f
