-- Drawing layer n leaves what step n may read. Assumes nothing.
use mathlib.Core.Path.{◌≡◌, refl}
use mathlib.Core.Bool.{true}
use mathlib.Core.List.{List}
use Prim.Native.Nat.{ℕ, ◌*◌, ◌<◌}
use native.Mathlib.Omega.{arith}
use borrow.Author.Tests.{ltb-true}
use Rattle.filter.specs.declared.Input.{Input}
use Rattle.filter.specs.declared.Input.TheVariants.{Source, SourceAlpha, Layer}
use Rattle.filter.specs.declared.Rect.{Rect}
use Rattle.filter.specs.Picture.{Picture}
use Rattle.filter.specs.Effect.{Env}
use Rattle.filter.specs.Checks.{allowed?}
use Rattle.filter.specs.Earlier.{AgreeBefore}
use Rattle.filter.specs.Bytes.{size, read}
use Rattle.buffers.specs.declared.Context.{Context}
use Rattle.buffers.specs.Buffers.{stands, ValidInputs}
use Rattle.buffers.specs.Shown.{shown}
use Rattle.buffers.specs.Context.{DrawnIn}
use Rattle.buffers.proofs.DrawnRows.{drawn-other}
use Rattle.buffers.proofs.ShownInputs.{shown-agree}

-- the other layers stay
pub others-agree : (w h n : ℕ) (src d d' : List ℕ) → ((k : ℕ) → ¬ (k ≡ n) → read w h d' (k * size w h) ≡ read w h d (k * size w h)) → AgreeBefore n (stands w h src d') (stands w h src d)
unfolding stands
others-agree w h n src d d' same = record { same = go }
  where
    go : (i : Input) → allowed? n i ≡ true → stands w h src d' i ≡ stands w h src d i
    go Source l = refl
    go SourceAlpha l = refl
    go (Layer k) l = let m : k < n = ltb-true k n l in same k (omega arith)

module _ (c : Context) (r : Rect) (new : Picture) (src d d' : List ℕ) (D : DrawnIn c r new d d') where
  pub stands-agree : AgreeBefore c.n (stands c.w c.h src d') (stands c.w c.h src d)
  stands-agree = others-agree c.w c.h c.n src d d' (drawn-other c.w c.h c.n r new d d' D)

  pub drawn-agree : AgreeBefore c.n (shown c src d') (shown c src d)
  drawn-agree = shown-agree c src d d' stands-agree

pub valid-agree : (n : ℕ) (E F : Env) → AgreeBefore n E F → ValidInputs n F → ValidInputs n E
valid-agree n E F A S = record { valid = λ i l. rw (A.same i l) (S.valid i l) }
