-- The kernel turned half round, and a kernel of whole multiples of a unit. No promise to a caller cites this. Assumes nothing.
use Rattle.std.specs.Prelude.{ℕ, ◌+◌, ◌-◌, ◌*◌, ◌/◌, ◌%◌, ◌≤◌, ◌<◌, ◌≡◌, Bool, cond, List, leb, get_or}
use Rattle.window.specs.Window.{fold}
use Rattle.number.specs.declared.Fixed.{Fixed}
use Rattle.pixel.specs.declared.Convolution.{Convolution}
use Rattle.kernel_lines.specs.Convolved.{value_at, lane_byte}
use Rattle.kernel_taps.specs.declared.finish.Finish.{Finish}
use Rattle.kernel_taps.specs.Lanes.{tapped}

abbrev pub nothing : Fixed
nothing = record { above = 0; below = 0 }

-- the value that goes with neighbour j, i, and 0 where the kernel has none
unfoldable pub turned : Convolution → List Fixed → ℕ → ℕ → Fixed
turned k v i j = cond (leb k.rows i) nothing (cond (leb k.columns j) nothing (value_at v ((k.rows - 1 - i) * k.columns + (k.columns - 1 - j))))

-- a divisor below zero exchanges what is above zero and what is below it
abbrev pub exchanged : Bool → Fixed → Fixed
exchanged negative u = record { above = cond negative u.below u.above; below = cond negative u.above u.below }

-- d is size units from zero
pub record Scaled (d : Fixed) (negative : Bool) (unit size : ℕ) : Type 0 where
  pub same : (exchanged negative d).above ≡ (exchanged negative d).below + unit * size

-- tap t, the kernel's rows being five taps long
abbrev pub tap_at : Convolution → List Fixed → Bool → ℕ → Fixed
tap_at k v negative t = exchanged negative (turned k v (t / 5) (t % 5))

-- whole multiples of the unit, and few of them
pub record Whole (unit : ℕ) (u : Fixed) : Type 0 where
  pub above : u.above % unit ≡ 0
  pub below : u.below % unit ≡ 0
  pub few_above : u.above / unit ≤ 257
  pub few_below : u.below / unit ≤ 257

-- w is u in units, 65,536 more where that is below zero
pub record Tap (unit w : ℕ) (u : Fixed) : Type 0 where
  pub whole : Whole unit u
  pub wraps : (w + u.below / unit) % 65536 ≡ u.above / unit

-- the weights of all taps; lift is what is below zero, most is all
pub record TapsOf (k : Convolution) (v : List Fixed) (negative : Bool) (unit : ℕ) (weights : List ℕ) (lift most : ℕ) : Type 0 where
  pub each : (t : ℕ) → t < 25 → Tap unit (get_or weights t 0) (tap_at k v negative t)
  pub lifted : lift ≡ fold ◌+◌ 0 25 (λ t. (tap_at k v negative t).below / unit)
  pub all : most ≡ fold ◌+◌ 0 25 (λ t. (tap_at k v negative t).above / unit + (tap_at k v negative t).below / unit)

-- bytes, each of which fits
abbrev pub Fits : List ℕ → Type 0
Fits lines = (i : ℕ) → get_or lines i 0 < 256

-- a row of the results can be made from the weights
pub record Prepares (k : Convolution) (v : List Fixed) (weights : List ℕ) (f : Finish) : Type 0 where
  pub same : (n : ℕ) (lines : List ℕ) (b : ℕ) → n ≤ 5 → k.columns ≤ n → k.rows ≤ n → Fits lines → tapped n weights f lines b ≡ lane_byte k v lines b
