use Rattle.std.proofs.Common.{ℕ, ◌+◌, ◌*◌, ◌/◌, ◌≤◌, ◌<◌, ◌≡◌, get_or}
use Rattle.window.specs.Window.{fold}
use Rattle.kernel_taps.specs.Taps.{tap_at, Tap}
use Rattle.kernel_taps.proofs.taps.taps_of.Given as goal

abbrev pub invariant-loop-t : goal.invariant-loop-t
invariant-loop-t l = let at = tap_at l.kernel.convolution l.kernel.values l.negative in record {
  each : (s : ℕ) → s < l.t → Tap l.unit (get_or l.weight-items s 0) (at s);
  lifted : l.lift ≡ fold ◌+◌ 0 l.t (λ (s : ℕ). (at s).below / l.unit);
  all : l.most ≡ fold ◌+◌ 0 l.t (λ (s : ℕ). (at s).above / l.unit + (at s).below / l.unit);
  lift_le_most : l.lift ≤ l.most;
  small : l.most ≤ 514 * l.t;
}
