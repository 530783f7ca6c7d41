use Prim.Native.Nat.{◌*◌, ◌≤◌}
use Rattle.window.specs.Store.{Filled}
use Rattle.kernel_composite.specs.Code.{blended, row}
use Rattle.kernel_composite.proofs.mix.Given as goal

abbrev pub invariant-loop-j : goal.invariant-loop-j
invariant-loop-j l = (l.j ≤ 2 * l.n) × Filled (blended l.a (row l.f) l.b (row l.g)) 0 (2 * l.j) l.initial.dst l.dst
