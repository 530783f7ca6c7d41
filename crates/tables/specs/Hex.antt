-- Numbers in lower-case hex digits. Assumes nothing.
use Rattle.std.specs.Prelude.{ℕ, zero, suc, ◌+◌, ◌*◌, ◌%◌, cond, List, ltb, get_or}

-- what the byte of a digit, 0 to 9 or a to f, stands for; the tables have no other bytes in their fields
unfoldable pub digit_of : ℕ → ℕ
digit_of x = cond (ltb x 97) (x % 16) ((x % 16 + 9) % 16)

-- the number whose digits are the n bytes of s from `at` on
unfoldable pub hex_of : List ℕ → ℕ → ℕ → ℕ
hex_of s at zero = 0
hex_of s at (suc n) = hex_of s at n * 16 + digit_of (get_or s (at + n) 0)
