-- What the code's own steps work out. No promise to a caller cites this. Assumes nothing.
use Rattle.std.specs.Prelude.{ℕ, ◌+◌, ◌-◌, ◌≤◌, ◌<◌, ◌≡◌, List, length, get_or}
use Rattle.number.specs.Number.{value}
use Rattle.number.specs.declared.Fixed.{Fixed}
use Rattle.pixel.specs.declared.Transfer as T
use Rattle.pixel.specs.declared.Transfer.TheVariants.{Identity, Table, Discrete, Linear}
use Rattle.pixel.specs.Curve.{table_channel, discrete_channel, linear_channel}
use Rattle.kernel_curve.specs.Channel.{value_at}

-- as many entries as a table can look at, none above 256
pub record Entries (e : List ℕ) : Type 0 where
  pub long : length e ≡ 17
  pub small : (k : ℕ) → k < 17 → get_or e k 0 ≤ 16777216

-- the values from `first` on
pub record EntriesFrom (v : List Fixed) (first : ℕ) (e : List ℕ) : Type 0 where
  pub long : length e ≡ 17
  pub same : (k : ℕ) → k < 17 → get_or e k 0 ≡ (value_at v (first + k)).above

unfoldable pub byte_of : T.Transfer → List ℕ → Fixed → Fixed → ℕ → ℕ
byte_of Identity e s i c = c
byte_of (Table n) e s i c = table_channel (n - 1) (λ (k : ℕ). get_or e k 0) c
byte_of (Discrete n) e s i c = discrete_channel n (λ (k : ℕ). get_or e k 0) c
byte_of Linear e s i c = linear_channel (value s) (value i) c
