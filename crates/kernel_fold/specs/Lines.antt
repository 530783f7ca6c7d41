-- Lines put together with those before and after them. Only the code needs these definitions: no promise to a caller cites them. Assumes nothing.
use Rattle.std.specs.Prelude.{List, ℕ, ◌+◌, ◌-◌, cond, ltb}
use Rattle.window.specs.Store.{byte_at}
use Rattle.kernel_fold.specs.declared.Extreme.{Extreme}
use Rattle.kernel_fold.specs.declared.between.Between.{Between}
use Rattle.kernel_fold.specs.declared.between.Reach.{Reach}
use Rattle.kernel_fold.specs.Operation.{operation}

-- the line s before v, or v itself where there is none
unfoldable pub earlier : ℕ → ℕ → ℕ
earlier s v = cond (ltb v s) v (v - s)

-- the line t after v, or v itself where there is none among count
unfoldable pub later : ℕ → ℕ → ℕ → ℕ
later t count v = cond (ltb (v + t) count) (v + t) v

-- byte i of the lines s before and t after v, put together
abbrev pub paired_lines : (ℕ → ℕ → ℕ) → List ℕ → ℕ → ℕ → ℕ → ℕ → ℕ → ℕ → ℕ → ℕ
paired_lines op d from n count s t v i = op (byte_at d from n (earlier s v) i) (byte_at d from n (later t count v) i)

-- the same with byte i of line v itself
abbrev pub around_line : (ℕ → ℕ → ℕ) → List ℕ → ℕ → ℕ → ℕ → ℕ → ℕ → ℕ → ℕ → ℕ
around_line op d from n count s t v i = op (paired_lines op d from n count s t v i) (byte_at d from n v i)

-- such pairs put together, by s2 and t2
abbrev pub paired_twice : (ℕ → ℕ → ℕ) → List ℕ → ℕ → ℕ → ℕ → ℕ → ℕ → ℕ → ℕ → ℕ → ℕ → ℕ
paired_twice op d from n count s t s2 t2 v i = op (paired_lines op d from n count s t (earlier s2 v) i) (paired_lines op d from n count s t (later t2 count v) i)

-- that of the lines of b, by one and then by two
abbrev pub twice_between : Extreme → List ℕ → Between → Reach → Reach → ℕ → ℕ → ℕ
twice_between op d b one two = paired_twice (operation op) d b.from b.n b.count one.back one.ahead two.back two.ahead

-- the same for the index j = at + i, where line v is stored
abbrev pub twice_at : Extreme → List ℕ → Between → Reach → Reach → ℕ → ℕ → ℕ → ℕ
twice_at op d b one two v at j = twice_between op d b one two v (j - at)
