use Prim.Native.Nat.{ℕ, ◌+◌, ◌<◌}
use mathlib.Core.Path.{◌≡◌}
use lib.ListN.{length, get_or}
use Rattle.window.specs.Window.{fold}
use Rattle.kernel_sums.specs.Running.{columns}
use Rattle.kernel_sums.proofs.running.start.Given as goal

abbrev pub invariant-loop-v : goal.invariant-loop-v
invariant-loop-v l = record {
  sums : (i : ℕ) → i < l.p.n → get_or l.sums i 0 ≡ l.half + fold ◌+◌ 0 l.v (columns l.p l.buf i);
  long : length l.sums ≡ length l.fn.sums;
}
