-- The numbers of a component transfer, channel by channel (RULES 5.13). Assumes nothing.
use Rattle.std.specs.Prelude.{ℕ, Bool, true, cond, ◌&&◌, ltb, leb}
use Rattle.number.specs.declared.Range.{Range}
use Rattle.number.specs.declared.Range.TheVariants.{Fraction, Coefficient}
use Rattle.pixel.specs.declared.Transfer as T
use Rattle.pixel.specs.declared.Transfer.TheVariants.{Identity, Table, Discrete, Linear}
use Rattle.pixel.specs.declared.Transfers.{Transfers}
use Rattle.filter.specs.Limits.{most_entries}

-- "Tables have 1 to 16 entries"
abbrev pub entries? : ℕ → Bool
entries? n = ltb 0 n && leb n most_entries

abbrev pub transfer? : T.Transfer → Bool
transfer? Identity = true
transfer? (Table n) = entries? n
transfer? (Discrete n) = entries? n
transfer? Linear = true

abbrev pub transfers? : Transfers → Bool
transfers? t = transfer? t.r && (transfer? t.g && (transfer? t.b && transfer? t.a))

-- the numbers of a table: where 16 refuses it, none is looked at
abbrev pub entries_of : ℕ → ℕ
entries_of n = cond (entries? n) n 0

-- how many numbers a channel has, and what is allowed for them: "each 0 to 1; slope and intercept lie within −256 to 256"
abbrev pub transfer_count : T.Transfer → ℕ
transfer_count Identity = 0
transfer_count (Table n) = entries_of n
transfer_count (Discrete n) = entries_of n
transfer_count Linear = 2

abbrev pub transfer_range : T.Transfer → Range
transfer_range Identity = Fraction
transfer_range (Table n) = Fraction
transfer_range (Discrete n) = Fraction
transfer_range Linear = Coefficient
