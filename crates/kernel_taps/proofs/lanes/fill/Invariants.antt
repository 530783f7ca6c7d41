use Rattle.std.proofs.Common.{ℕ, ◌+◌}
use Rattle.window.specs.Store.{Filled}
use Rattle.kernel_taps.specs.Lanes.{tapped}
use Rattle.kernel_taps.proofs.lanes.fill.Given as goal

abbrev pub invariant-loop-b : goal.invariant-loop-b
invariant-loop-b g l = Filled (λ (i : ℕ). tapped g.row.N l.weights l.finish l.lines (l.at + i)) 0 l.b l.initial.x-items l.x-items
