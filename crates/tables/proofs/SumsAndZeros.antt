-- Sums and zeros of one byte more. Assumes nothing.
use Prim.Native.Nat.{ℕ, suc, ◌+◌, ◌*◌, ◌%◌, ◌<◌}
use mathlib.Core.Path.{◌≡◌, refl, ap, ◌∙◌}
use Rattle.std.specs.Bool.{Decides}
use Rattle.std.proofs.Math.Bool.{and_comm}
use Rattle.std.proofs.lemmas.Bool.Decides.{Decides-below_and, Decides-eqb}
use mathlib.Core.List.{List}
use native.Mathlib.Omega.{arith}
use lib.Dec.{eqb}
use lib.ListN.{get_or}
use Rattle.tables.specs.Content.{sum_of, zeros?}

pub sum_more : (s : List ℕ) (i sum : ℕ) → sum ≡ sum_of s i → (sum * 257 + get_or s i 0 + 1) % 4294967291 ≡ sum_of s (i + 1)
unfolding sum_of
sum_more s i sum e =
    let q : suc i ≡ i + 1 = omega arith in
    ap (λ (n : ℕ). (n * 257 + get_or s i 0 + 1) % 4294967291) e ∙ ap (sum_of s) q

-- the test that every byte is 0 decides it
pub zeros-decide : (s : List ℕ) (n : ℕ) → Decides (zeros? s n) ((k : ℕ) → k < n → get_or s k 0 ≡ 0)
unfolding zeros?
zeros-decide s = Decides-below_and (λ k. eqb (get_or s k 0) 0) (λ k. get_or s k 0 ≡ 0) (zeros? s) (λ k. Decides-eqb (get_or s k 0) 0) refl (λ n. and_comm (zeros? s n) (eqb (get_or s n 0) 0))
