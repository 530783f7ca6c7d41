-- Where a layer lies. Assumes nothing.
use Prim.Native.Nat.{ℕ, ◌+◌, ◌*◌, ◌≤◌, ◌<◌}
use mathlib.Core.Path.{◌≡◌, ap}
use mathlib.Core.Bool.{true, false}
use native.Mathlib.Omega.{arith}
use native.Mathlib.Nat.{mul-le-mul_right}
use borrow.Author.Tests.{lt-ltb, le-ltb, eq-eqb, ne_eqb}
use Rattle.filter.specs.Bytes.{size}
use Rattle.filter.specs.Checks.{canvas?, count?}
use Rattle.render.specs.declared.View.{View}
use Rattle.render.specs.View.{view_at}

abbrev none : View
none = record { offset = 0; bytes = 0 }

module _ (w h steps n long : ℕ) where
  -- where a test fails there is nothing to show
  pub bad-canvas : canvas? w h ≡ false → none ≡ view_at w h steps n long
  unfolding view_at
  bad-canvas e = rw e

  pub bad-count : canvas? w h ≡ true → count? steps ≡ false → none ≡ view_at w h steps n long
  unfolding view_at
  bad-count e f = rw (e, f)

  pub bad-length : canvas? w h ≡ true → count? steps ≡ true → ¬ (long ≡ steps * size w h) → none ≡ view_at w h steps n long
  unfolding view_at
  bad-length e f k = rw (e, f, ne_eqb long (steps * size w h) k)

  module _ (e : canvas? w h ≡ true) (f : count? steps ≡ true) (k : long ≡ steps * size w h) where
    pub bad-layer : steps ≤ n → none ≡ view_at w h steps n long
    unfolding view_at
    bad-layer l = rw (e, f, eq-eqb long (steps * size w h) k, le-ltb n steps l)

    pub good-layer : (s : ℕ) → s ≡ size w h → n < steps → record { offset = n * s; bytes = s } ≡ view_at w h steps n long
    unfolding view_at
    good-layer s q l = rw (e, f, eq-eqb long (steps * size w h) k, lt-ltb n steps l) (ap (λ (m : ℕ). record { offset = n * m; bytes = m }) q)

    pub layer-ends : (s : ℕ) → s ≡ size w h → n < steps → n * s + s ≤ long
    layer-ends s q l = omega (arith, mul-le-mul_right s l, ap (λ (m : ℕ). steps * m) q)
