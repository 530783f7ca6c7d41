-- A step on buffers that other rows of its layer were drawn to. Assumes nothing.
use mathlib.Core.Path.{◌≡◌}
use mathlib.Core.Bool.{true}
use mathlib.Core.List.{List}
use Prim.Native.Nat.{ℕ}
use Rattle.number.specs.declared.Fixed.{Fixed}
use Rattle.filter.specs.declared.Input.{Input}
use Rattle.filter.specs.declared.Rect.{Rect}
use Rattle.filter.specs.declared.Shape.{Shape}
use Rattle.filter.specs.Picture.{Picture}
use Rattle.filter.specs.Kinds.{work_of, reads}
use Rattle.filter.specs.Checks.{allowed?}
use Rattle.filter.specs.Earlier.{Earlier}
use Rattle.buffers.specs.declared.Context.{Context}
use Rattle.buffers.specs.Shown.{shown}
use Rattle.buffers.specs.Context.{Readable, Drawable, DrawnIn}
use Rattle.buffers.proofs.DrawnAgrees.{stands-agree, drawn-agree, valid-agree}
use Rattle.buffers.proofs.WorkAgrees.{work-same}

-- its inputs can still be read, and are valid as they were
module _ (c : Context) (r : Rect) (new : Picture) (src d d' pairs : List ℕ) (D : DrawnIn c r new d d') where
  pub readable-later : Readable c src d pairs → Readable c src d' pairs
  readable-later R = record {
    sized = record {
      wide = R.sized.wide;
      high = R.sized.high;
      steps = R.sized.steps;
      source = R.sized.source;
      workspace = rw D.long R.sized.workspace;
    };
    tabled = R.tabled;
  }

  pub drawable-later : Drawable c src d pairs → Drawable c src d' pairs
  drawable-later S = record { readable = readable-later S.readable; valid = valid-agree c.n _ _ (stands-agree c r new src d d' D) S.valid }

-- what it sees and what it works are the same
module _ (c : Context) (r : Rect) (new : Picture) (src d d' : List ℕ) (D : DrawnIn c r new d d') where
  pub input-later : (i : Input) → allowed? c.n i ≡ true → shown c src d' i ≡ shown c src d i
  input-later = (drawn-agree c r new src d d' D).same

  pub work-later : (k : Shape) (v : List Fixed) → Earlier c.n (reads c.w c.h k)
      → work_of c.w c.h k v (shown c src d') ≡ work_of c.w c.h k v (shown c src d)
  work-later k v e = work-same c.w c.h c.n k v _ _ e (drawn-agree c r new src d d' D)
