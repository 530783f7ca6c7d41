-- Digits, one after another. Assumes nothing.
use mathlib.Core.Path.{◌≡◌, refl, sym, ap, ◌∙◌}
use mathlib.Core.Bool.{Bool, true, false}
use mathlib.Core.List.{[], ◌∷◌, ◌++◌}
use Prim.Native.Nat.{ℕ, zero, suc, ◌+◌, ◌/◌, ◌%◌, ◌≤◌, ◌<◌}
use native.Mathlib.Omega.{arith}
use lib.Dec.{ltb}
use lib.ListN.{length, length-append}
use borrow.Author.Tests.{lt-ltb, le-ltb, ltb-true, ltb-false}
use Rattle.pixel.specs.declared.Pixel.{Pixel}
use Rattle.text_print.specs.Digits.{digit, shortest, decimal, hex_byte, hex_pixel}

pub digit_low : (d : ℕ) → d < 10 → digit d ≡ 48 + d
unfolding digit
digit_low d h = rw (lt-ltb d 10)

pub digit-high : (d : ℕ) → 10 ≤ d → digit d ≡ 87 + d
unfolding digit
digit-high d h = rw (le-ltb d 10)

pub shortest-digit : (k n : ℕ) → n < 10 → shortest k n ≡ digit n ∷ []
unfolding shortest
shortest-digit zero n h = refl
shortest-digit (suc k) n h = rw (lt-ltb n 10)

pub shortest-more : (k n : ℕ) → 10 ≤ n → shortest (suc k) n ≡ shortest k (n / 10) ++ (digit (n % 10) ∷ [])
unfolding shortest
shortest-more k n h = rw (le-ltb n 10)

-- more room than digits changes nothing
shortest-any : (k m n : ℕ) → n ≤ k → n ≤ m → shortest k n ≡ shortest m n
shortest-any zero m n h l = shortest-digit zero n (omega arith) ∙ sym (shortest-digit m n (omega arith))
shortest-any (suc k) zero n h l = shortest-digit (suc k) n (omega arith) ∙ sym (shortest-digit zero n (omega arith))
shortest-any (suc k) (suc m) n h l = go (ltb n 10) refl (λ a b. shortest-any k m (n / 10) a b)
  where
    go : (b : Bool) → ltb n 10 ≡ b → (n / 10 ≤ k → n / 10 ≤ m → shortest k (n / 10) ≡ shortest m (n / 10)) → shortest (suc k) n ≡ shortest (suc m) n
    go true e ih = let z : n < 10 = ltb-true n 10 e in shortest-digit (suc k) n z ∙ sym (shortest-digit (suc m) n z)
    go false e ih =
        let z : 10 ≤ n = ltb-false n 10 e in
        shortest-more k n z ∙ ap (◌++ (digit (n % 10) ∷ [])) (ih (omega arith) (omega arith)) ∙ sym (shortest-more m n z)

pub decimal_digit : (n : ℕ) → n < 10 → decimal n ≡ digit n ∷ []
unfolding decimal
decimal_digit n h = shortest-digit n n h

pub decimal-more : (n : ℕ) → 10 ≤ n → decimal n ≡ decimal (n / 10) ++ (digit (n % 10) ∷ [])
unfolding decimal
decimal-more zero h = absurd (omega arith)
decimal-more (suc k) h =
    shortest-more k (suc k) h ∙ ap (◌++ (digit (suc k % 10) ∷ [])) (shortest-any k (suc k / 10) (suc k / 10) (omega arith) (omega arith))

pub decimal-length : (n : ℕ) → 10 ≤ n → length (decimal n) ≡ length (decimal (n / 10)) + 1
decimal-length n h = ap length (decimal-more n h) ∙ length-append (decimal (n / 10)) (digit (n % 10) ∷ [])

pub hex-length : (p : Pixel) → length (hex_pixel p) ≡ 8
unfolding hex_pixel hex_byte
hex-length p = refl
