-- A part that was filled with 0. Assumes nothing.
use mathlib.Core.Path.{◌≡◌}
use mathlib.Core.List.{List}
use Prim.Native.Nat.{ℕ, ◌-◌, ◌≤◌}
use native.Mathlib.Omega.{arith}
use lib.ListN.{length, replicate}
use borrow.Rule.Slice.PartMut.{put_mid, mid_of}
use Rattle.std.proofs.lemmas.Grind.{common_steps}
use Rattle.window.specs.Store.{Filled}

pub zeros : (a e : ℕ) (d f : List ℕ) → a ≤ e → e ≤ length d → f ≡ replicate (length (mid_of a (e - a) d)) 0 → Filled (λ _. 0) a e d (put_mid a (e - a) d f)
zeros a e d f h l is = rw is record {
  inside = λ i lo hi. grind (arith, common_steps);
  before = λ i lo. grind (arith, common_steps);
  after = λ i hi. grind (arith, common_steps);
  long = grind (arith, common_steps);
}
