-- Numbers and pixels as digits. Assumes nothing.
use Rattle.std.specs.Prelude.{cond, List, [], ◌∷◌, ◌++◌, ℕ, zero, suc, ◌+◌, ◌/◌, ◌%◌, ltb}
use Rattle.pixel.specs.declared.Pixel.{Pixel}

-- the digit of d, 0 to 9 or, in lower case, a to f
unfoldable pub digit : ℕ → ℕ
digit d = cond (ltb d 10) (48 + d) (87 + d)

-- at most k + 1 decimal digits of n, without leading zeros
unfoldable pub shortest : ℕ → ℕ → List ℕ
shortest zero n = digit n ∷ []
shortest (suc k) n = cond (ltb n 10) (digit n ∷ []) (shortest k (n / 10) ++ (digit (n % 10) ∷ []))

-- all its digits: there are at most n + 1
unfoldable pub decimal : ℕ → List ℕ
decimal n = shortest n n

unfoldable pub hex_byte : ℕ → List ℕ
hex_byte x = digit (x / 16) ∷ digit (x % 16) ∷ []

-- "eight lower-case hex digits"
unfoldable pub hex_pixel : Pixel → List ℕ
hex_pixel p = hex_byte p.r ++ (hex_byte p.g ++ (hex_byte p.b ++ hex_byte p.a))
