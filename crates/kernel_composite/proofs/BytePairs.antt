-- Two bytes at a time: the weighted bytes of a pair, and one pair more in a row. Assumes nothing.
use mathlib.Core.Path.{◌≡◌, ap, ◌∙◌}
use mathlib.Core.List.{List}
use Prim.Native.Nat.{ℕ, ◌+◌, ◌*◌, ◌/◌, ◌%◌, ◌≤◌, ◌<◌}
use native.Mathlib.Nat.{mul-zero}
use native.Mathlib.Omega.{arith}
use lib.ListN.{length, get_or, set}
use Rattle.window.specs.Store.{Filled}
use Rattle.window.proofs.Store.{filled_more}
use Rattle.kernel_composite.specs.BytePairs.{pair_at, Paired}
use Rattle.kernel_composite.specs.Code.{weighted, blended, row, Fitting}

-- the two bytes from the index 2·j on
abbrev pub BytePair : List ℕ → ℕ → ℕ → Type 0
BytePair d j = Paired (get_or d (2 * j) 0) (get_or d (2 * j + 1) 0)

-- a row of factors gives both bytes of a pair the same one
pub row-even : (d : List ℕ) (j v : ℕ) → BytePair d j v → v ≡ row d (2 * j)
row-even d j v P =
    let e : j ≡ 2 * j / 2 = omega arith in
    let is : v ≡ pair_at d j = omega (arith, P.low, P.high) in
    is ∙ ap (pair_at d) e

pub row-odd : (d : List ℕ) (j v : ℕ) → BytePair d j v → v ≡ row d (2 * j + 1)
row-odd d j v P =
    let e : j ≡ (2 * j + 1) / 2 = omega arith in
    let is : v ≡ pair_at d j = omega (arith, P.low, P.high) in
    is ∙ ap (pair_at d) e

-- one pair more
pub pair-more : (f : ℕ → ℕ) (j v : ℕ) (d₀ d d' : List ℕ) → 2 * j + 2 ≤ length d₀ → Paired (f (2 * j)) (f (2 * j + 1)) v → Filled f 0 (2 * j) d₀ d
    → d' ≡ set (set d (2 * j) (v % 256)) (2 * j + 1) (v / 256) → Filled f 0 (2 * (j + 1)) d₀ d'
pair-more f j v d₀ d d' l P F e =
    let q : 2 * j + 1 + 1 ≡ 2 * (j + 1) = omega arith in
    let one = filled_more f 0 (2 * j) (v % 256) d₀ d (omega arith) (omega arith) P.low F in
    let two = filled_more f 0 (2 * j + 1) (v / 256) d₀ _ (omega arith) (omega arith) P.high one in
    rw e (rw q at two)

-- the pair j of a row a weighted by u, and that of b by w, where F and G are u and w there
module _ (a b : List ℕ) (F G : ℕ → ℕ) (j x y u w : ℕ) (X : BytePair a j x) (Y : BytePair b j y) (fe : u ≡ F (2 * j)) (fo : u ≡ F (2 * j + 1)) (ge : w ≡ G (2 * j)) (go : w ≡ G (2 * j + 1)) where
  even : weighted (x % 256) u (y % 256) w ≡ weighted (get_or a (2 * j) 0) (F (2 * j)) (get_or b (2 * j) 0) (G (2 * j))
  even = rw (X.low, Y.low, ← fe, ← ge)

  odd : weighted (x / 256) u (y / 256) w ≡ weighted (get_or a (2 * j + 1) 0) (F (2 * j + 1)) (get_or b (2 * j + 1) 0) (G (2 * j + 1))
  odd = rw (X.high, Y.high, ← fo, ← go)

  pub weighs : (m : ℕ) → 2 * j + 2 ≤ m → Fitting a F b G m → (u < 256) × (w < 256) × (weighted (x % 256) u (y % 256) w ≤ 65025) × (weighted (x / 256) u (y / 256) w ≤ 65025)
  weighs m l H = (
    rw fe (H.small_f (2 * j) (omega arith)),
    rw ge (H.small_g (2 * j) (omega arith)),
    rw even (H.fits (2 * j) (omega arith)),
    rw odd (H.fits (2 * j + 1) (omega arith)),
  )

  pub blends : (v : ℕ) → Paired ((weighted (x % 256) u (y % 256) w + 127) / 255) ((weighted (x / 256) u (y / 256) w + 127) / 255) v → Paired (blended a F b G (2 * j)) (blended a F b G (2 * j + 1)) v
  blends v P = record {
    low = P.low ∙ ap (λ (t : ℕ). (t + 127) / 255) even;
    high = P.high ∙ ap (λ (t : ℕ). (t + 127) / 255) odd;
  }

-- a pair by one factor alone
pub scales : (x f v : ℕ) → Paired ((x % 256 * f + 127) / 255) ((x / 256 * f + 127) / 255) v → Paired ((weighted (x % 256) f (x % 256) 0 + 127) / 255) ((weighted (x / 256) f (x / 256) 0 + 127) / 255) v
scales x f v P = record {
  low = P.low ∙ ap (λ (t : ℕ). (t + 127) / 255) (omega (arith, mul-zero (x % 256)));
  high = P.high ∙ ap (λ (t : ℕ). (t + 127) / 255) (omega (arith, mul-zero (x / 256)));
}

-- a pair that was not reached yet
pub pair-kept : (f : ℕ → ℕ) (j v : ℕ) (d₀ d : List ℕ) → Filled f 0 (2 * j) d₀ d → BytePair d j v → BytePair d₀ j v
pair-kept f j v d₀ d F P = record {
  low = P.low ∙ F.after (2 * j) (omega arith);
  high = P.high ∙ F.after (2 * j + 1) (omega arith);
}
