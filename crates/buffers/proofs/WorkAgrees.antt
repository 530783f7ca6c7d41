-- A step works from what it may read. Assumes nothing.
use mathlib.Core.Path.{◌≡◌}
use mathlib.Core.List.{List}
use Prim.Native.Nat.{ℕ}
use Rattle.number.specs.declared.Fixed.{Fixed}
use Rattle.filter.specs.declared.Shape.{Shape}
use Rattle.filter.specs.Rect.{empty}
use Rattle.filter.specs.Effect.{Env}
use Rattle.filter.specs.Kinds.{work_of, reads}
use Rattle.filter.specs.Earlier.{Earlier, AgreeBefore}
use Rattle.filter.proofs.Locality.{work-local}
use Rattle.filter.proofs.Earlier.{earlier-work}

pub work-same : (w h n : ℕ) (k : Shape) (v : List Fixed) (E F : Env) → Earlier n (reads w h k) → AgreeBefore n E F → work_of w h k v E ≡ work_of w h k v F
work-same w h n k v E F e a = earlier-work n (record { work = work_of w h k v; reads = reads w h k; region = empty }) (work-local w h k v) e E F a
