-- A kernel's values added up, and the divisor that they make. Assumes nothing.
use Rattle.std.proofs.Common.{ℕ, zero, suc, ◌+◌, ◌-◌, ◌<◌, ◌≤◌, List, length, get_or, take, ◌≡◌, ◌≢◌, refl, ap, Bool, true, false, cond, ltb, ltb-true, ltb-false, add-one, arith, ℤ, pos, negsuc}
use lib.IntN.{sub_ℕ}
use Rattle.number.specs.Number.{value}
use Rattle.number.specs.declared.Fixed.{Fixed}
use Rattle.std.proofs.lemmas.List.{get_or-take, length-take}
use Rattle.pixel.specs.declared.Convolution.{Convolution}
use Rattle.pixel.specs.Coefficient.{Allowed}
use Rattle.pixel.specs.Convolve.{sum, or_one}
use Rattle.pixel.proofs.SignedSums.{above, below, Diff, diff-sub, diff-add}
use Rattle.kernel_lines.specs.Convolved.{value_at, Convolves}

-- one of the first n values
pub taken : (k : Convolution) (v : List Fixed) → Convolves k v → (n i : ℕ) → n ≤ 25 → i < length (take n v)
    → (get_or (take n v) i (record { above = 0; below = 0 }) ≡ value_at v i) × Allowed (get_or (take n v) i (record { above = 0; below = 0 }))
taken k v ok n i few l =
    let m : i < n = omega (arith, length-take {A = Fixed}) in
    let e = get_or-take n v i (record { above = 0; below = 0 }) m in
    (e, rw e (ok.allowed i (omega arith)))

-- a difference as a whole number
own : (t : Bool) (z : ℤ) (a b : ℕ) → ltb a b ≡ t → above z + b ≡ a + below z → cond t (negsuc (b - suc a)) (pos (a - b)) ≡ z
own true (pos n) a b e h = absurd (omega (arith, ltb-true a b e))
own true (negsuc n) a b e h = ap negsuc (omega (arith, ltb-true a b e))
own false (pos n) a b e h = ap pos (omega (arith, ltb-false a b e))
own false (negsuc n) a b e h = absurd (omega (arith, ltb-false a b e))

pub diff_is : {z : ℤ} {a b : ℕ} → Diff z a b → sub_ℕ a b ≡ z
diff_is {z} {a} {b} h = own (ltb a b) z a b refl h.same

pub is-diff : {z : ℤ} (a b : ℕ) → sub_ℕ a b ≡ z → Diff z a b
is-diff a b e = rw (← e) (diff-sub a b)

-- one value more
pub diff-more : (n : ℕ) (f : ℕ → ℤ) (a b : ℕ) (u : Fixed) → Diff (sum n f) a b → value u ≡ f n → Diff (sum (n + 1) f) (a + u.above) (b + u.below)
unfolding sum
diff-more n f a b u h e = rw (add-one n) (diff-add h (is-diff u.above u.below e))

pub diff-none : (f : ℕ → ℤ) → Diff (sum 0 f) 0 0
unfolding sum
diff-none f = record { same = refl }

-- a kernel's sum of 0 gives 1, and any other is the divisor
pub or-zero : (z : ℤ) (a b : ℕ) → sub_ℕ a b ≡ z → a ≡ b → pos 65536 ≡ or_one z
or-zero (pos zero) a b e s = refl
or-zero (pos (suc n)) a b e s = let d : Diff (pos (suc n)) a b = is-diff a b e in absurd (omega (arith, d.same))
or-zero (negsuc n) a b e s = let d : Diff (negsuc n) a b = is-diff a b e in absurd (omega (arith, d.same))

pub or_same : (z : ℤ) (a b : ℕ) → sub_ℕ a b ≡ z → a ≢ b → z ≡ or_one z
or_same (pos zero) a b e s = let d : Diff (pos zero) a b = is-diff a b e in absurd (s (omega (arith, d.same)))
or_same (pos (suc n)) a b e s = refl
or_same (negsuc n) a b e s = refl
