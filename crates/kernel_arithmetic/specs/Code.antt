-- What the code's own steps work out. No promise to a caller cites this. Assumes nothing.
use Rattle.std.specs.Prelude.{ℕ, ◌+◌, ◌-◌, ◌*◌, ◌/◌, min}

-- two straight lines in y, what is above zero less what is below it, divided and limited
abbrev pub level : ℕ → ℕ → ℕ → ℕ → ℕ → ℕ
level up above down below y = min ((up * y + above - (down * y + below)) / 16711680) 255
