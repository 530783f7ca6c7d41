-- A part of a list that was lent, filled and came back. Assumes nothing.
use mathlib.Core.Path.{◌≡◌, refl, ◌∙◌}
use mathlib.Core.List.{List, ◌++◌}
use Prim.Native.Nat.{ℕ, ◌+◌, ◌-◌, ◌≤◌, ◌<◌}
use native.Mathlib.Omega.{arith}
use lib.ListN.{length, get_or, take, drop, get_or-append}
use Rattle.std.proofs.lemmas.Grind.{common_steps}
use borrow.Rule.Slice.PartMut.{put_mid}
use Rattle.std.proofs.lemmas.List.{get_or-append_right}
use Rattle.std.proofs.Common.{length-append, length-drop, length-take-le, get_or-drop}
use Rattle.window.specs.Store.{Filled}

-- the elements beside the part
front : (o k i : ℕ) (d m : List ℕ) → i < o → o ≤ length d → get_or (put_mid o k d m) i 0 ≡ get_or d i 0
front o k i d m h l = grind (arith, common_steps)

back : (o k i : ℕ) (d m : List ℕ) → o + k ≤ i → length m ≡ k → o + k ≤ length d → get_or (put_mid o k d m) i 0 ≡ get_or d i 0
back o k i d m h e l = grind (arith, common_steps)

part : (f : ℕ → ℕ) (o k : ℕ) (d m : List ℕ) → o + k ≤ length d → Filled f 0 k (take k (drop o d)) m → Filled (λ i. f (i - o)) o (o + k) d (put_mid o k d m)
part f o k d m fits F = record {
  inside = λ i lo hi. within i lo hi ∙ F.inside (i - o) (omega arith) (omega arith);
  before = λ i h. front o k i d m h (omega arith);
  after = λ i h. back o k i d m h long fits;
  long = grind (arith, common_steps);
}
  where
    long : length m ≡ k
    long = F.long ∙ grind (arith, common_steps)

    within : (i : ℕ) → o ≤ i → i < o + k → get_or (put_mid o k d m) i 0 ≡ get_or m (i - o) 0
    within i lo hi = grind (arith, common_steps)

-- a loop filled the part, up to its end
pub filled-part : (f : ℕ → ℕ) (o k n i : ℕ) (d m : List ℕ) → k ≡ n → o + n ≤ length d → i ≡ length (take k (drop o d)) → Filled f 0 i (take k (drop o d)) m
    → Filled (λ j. f (j - o)) o (o + n) d (put_mid o k d m)
filled-part f o k n i d m e fits full F =
    let all : i ≡ k = full ∙ length-take-le k (drop o d) (simp length-drop (omega arith)) in
    rw (← e) (part f o k d m (omega arith) (rw all at F))

-- a callee filled the part
pub filled-lent : (f : ℕ → ℕ) (o k n : ℕ) (d m : List ℕ) → k ≡ n → o + n ≤ length d → Filled f 0 n (take k (drop o d)) m → Filled (λ j. f (j - o)) o (o + n) d (put_mid o k d m)
filled-lent f o k n d m e fits F = rw (← e) (part f o k d m (omega arith) (rw (← e) at F))

-- a loop filled the front
pub filled-front : (f : ℕ → ℕ) (k i : ℕ) (d m : List ℕ) → k ≤ length d → i ≡ length (take k d) → Filled f 0 i (take k d) m → Filled f 0 k d (m ++ drop k d)
filled-front f k n d m fits full F = record {
  inside = λ i lo hi. let h : i < length m = omega (arith, long) in get_or-append m (drop k d) 0 i h ∙ F.inside i lo (omega (arith, F.long, long));
  before = λ i h. absurd (omega arith);
  after = λ i h. let at : k + (i - k) ≡ i = omega arith in get_or-append_right m _ k i 0 long h ∙ get_or-drop k d (i - k) 0 ∙ rw at refl;
  long = simp (length-append, length-drop) (omega (arith, long));
}
  where
    long : length m ≡ k
    long = F.long ∙ length-take-le k d fits
