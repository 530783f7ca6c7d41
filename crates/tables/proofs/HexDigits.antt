-- One digit more, and what so many digits stand below. Assumes nothing.
use Prim.Native.Nat.{ℕ, zero, suc, ◌+◌, ◌-◌, ◌*◌, ◌%◌, ◌≤◌, ◌<◌, ◌^◌}
use mathlib.Core.Path.{◌≡◌, ap, ◌∙◌}
use mathlib.Core.List.{List}
use native.Mathlib.Nat.{pow-succ', pow-le-pow_right}
use native.Mathlib.Decide.{dec_lt}
use native.Mathlib.Omega.{arith}
use lib.ListN.{length, get_or, take, drop, length-take, length-drop}
use lib.Seq.{get_or-take, get_or-drop}
use borrow.Author.Tests.{lt-ltb, le-ltb}
use Rattle.tables.specs.Hex.{digit_of, hex_of}

pub digit-decimal : (x : ℕ) → x < 97 → digit_of x ≡ x % 16
unfolding digit_of
digit-decimal x h = rw (lt-ltb x 97)

pub digit-letter : (x : ℕ) → 97 ≤ x → digit_of x ≡ (x % 16 + 9) % 16
unfolding digit_of
digit-letter x h = rw (le-ltb x 97)

digit-small : (x : ℕ) → digit_of x < 16
digit-small x = elim (dec_lt x 97) [ yes h ↦ rw (digit-decimal x h) (omega arith) | no h ↦ rw (digit-letter x (omega arith)) (omega arith) ]

hex-small : (s : List ℕ) (at n : ℕ) → hex_of s at n < 16 ^ n
unfolding hex_of
hex-small s at zero = omega arith
hex-small s at (suc n) = omega (arith, hex-small s at n, digit-small (get_or s (at + n) 0), pow-succ' 16 n)

-- fewer than 16 digits leave room for one more
pub hex-room : (s : List ℕ) (at n : ℕ) → n < 16 → hex_of s at n < 1152921504606846976
hex-room s at n h = let p : 16 ^ n ≤ 16 ^ 15 = pow-le-pow_right {n = 16} (omega arith) {i = n} {j = 15} (omega arith) in omega (arith, hex-small s at n)

-- the digits that are still to come are fewer than all
pub digits-ahead : (s : List ℕ) (at count i : ℕ) → at + count ≤ length s → i < length (take (at + count - at) (drop at s)) → i < count
digits-ahead s at count i h l = omega (arith, length-take (at + count - at) (drop at s), length-drop at s)

-- one digit more, of those from `at` on
pub hex-more : (s : List ℕ) (at count i v d : ℕ) → i < count → v ≡ hex_of s at i → d ≡ digit_of (get_or (take (at + count - at) (drop at s)) i 0)
    → v * 16 + d ≡ hex_of s at (i + 1)
unfolding hex_of
hex-more s at count i v d h e f =
    let k : i < at + count - at = omega arith in
    let g = get_or-take (at + count - at) (drop at s) i 0 k ∙ get_or-drop at s i 0 in
    let q : suc i ≡ i + 1 = omega arith in
    rw (e, f, g) (ap (hex_of s at) q)
