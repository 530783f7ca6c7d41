-- The map of one channel from a step's values. Assumes nothing.
use Rattle.std.specs.Prelude.{ℕ, ◌+◌, ◌≤◌, ◌<◌, List, get_or}
use Rattle.number.specs.declared.Fixed.{Fixed}
use Rattle.pixel.specs.declared.Transfer as T
use Rattle.pixel.specs.declared.Transfer.TheVariants.{Identity, Table, Discrete, Linear}
use Rattle.pixel.specs.Coefficient.{Allowed}
use Rattle.pixel.specs.Curve.{transferred}

-- value i, and 0 behind the last
abbrev pub value_at : List Fixed → ℕ → Fixed
value_at v i = get_or v i (record { above = 0; below = 0 })

-- a channel whose numbers stand from `first` on
abbrev pub channel_map : T.Transfer → List Fixed → ℕ → ℕ → ℕ
channel_map t v first c = transferred t (λ (k : ℕ). value_at v (first + k)) c

-- a table has 1 to 16 entries
unfoldable pub Counted : T.Transfer → Type 0
Counted Identity = Unit {0}
Counted (Table n) = (1 ≤ n) × (n ≤ 16)
Counted (Discrete n) = (1 ≤ n) × (n ≤ 16)
Counted Linear = Unit {0}

-- no value is further from zero than 256
pub record AllowedValues (v : List Fixed) : Type 0 where
  pub each : (i : ℕ) → i < 64 → Allowed (value_at v i)
