-- The size of a step record in bytes, as MIR has it: the one place of the walks that changes with the record's fields. A size of up to 1,023 is an
-- `int` (types.Run's `lit`), a larger one an `int_big`. Assumes nothing.
use Prim.Native.Nat.{ℕ, ◌*◌, ◌<◌, ◌^◌}
use native.Mathlib.Omega.{arith}
use mathlib.Core.List.{List}
use seplogic.Ra.Ura.{Ura}
use lib.Dec.{lit<}
use mir.Syntax.{w64, int_big}
use mir.Val.{vint, Fits}
use base.Logic.{via, guard_i}
use prog.Wp.{Env}
use types.Logic.{Logic}
use types.Kit.{Item}
use types.Run.{Opd}

abbrev pub step_size : ℕ
step_size = 1208

pub size_lit : {M : Type 1} {𝓤 : Ura M} {𝓛 : Logic 𝓤} {K : Type 0} {Γ : List (Item 𝓤)} {E : Env 𝓤 𝓛.H} → K → Opd K 𝓛 Γ E (int_big w64 step_size) (vint w64 step_size)
size_lit {𝓤 = 𝓤} t = record { go = λ Kt h. via 𝓤 (Kt (vint w64 step_size)) h (guard_i 𝓤 (Fits w64 step_size) (Kt (vint w64 step_size)) (record { fits = lit< tt })) }

-- the bytes before an element fit a word
pub before : (n m : ℕ) → n < m → m * step_size < 2 ^ 63 → n * step_size < 2 ^ 64
before n m l g = omega arith
