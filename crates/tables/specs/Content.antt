-- What the first n bytes of a buffer hold, as a line says it. Assumes nothing.
use Rattle.std.specs.Prelude.{ℕ, zero, suc, ◌+◌, ◌*◌, ◌%◌, Bool, true, ◌&&◌, List, eqb, get_or}

-- begins at 0 and becomes (sum · 257 + byte + 1) mod 4,294,967,291 with each byte
unfoldable pub sum_of : List ℕ → ℕ → ℕ
sum_of s zero = 0
sum_of s (suc n) = (sum_of s n * 257 + get_or s n 0 + 1) % 4294967291

-- every byte is 0
unfoldable pub zeros? : List ℕ → ℕ → Bool
zeros? s zero = true
zeros? s (suc n) = zeros? s n && eqb (get_or s n 0) 0
