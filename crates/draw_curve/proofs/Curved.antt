-- Tables find each kept pixel as the step sees it, remapped. Assumes nothing.
use Prim.Native.Nat.{ℕ, ◌*◌}
use mathlib.Core.Path.{◌≡◌, refl, sym, ap, ◌∙◌}
use mathlib.Core.Bool.{Bool, true, false, cond}
use mathlib.Core.List.{List}
use lib.Dec.{eqb}
use lib.ListN.{length}
use native.Mathlib.Omega.{arith}
use borrow.Author.Tests.{ltb-true, ltb-false, ne_eqb, eq-eqb}
use Rattle.pixel.specs.declared.Pixel.{Pixel}
use Rattle.pixel.specs.Bytes.{pixel_at, Painted}
use Rattle.pixel.proofs.PaintedRows.{painted-as}
use Rattle.pixel.specs.Remap.{remapped}
use Rattle.pixel.specs.Space.{space_maps}
use Rattle.kernel_remap.specs.Remaps.{maps_in, looked_up_at, seen_by, Remaps}
use Rattle.filter.specs.declared.Input.{Input}
use Rattle.filter.specs.Picture.{Picture}
use Rattle.buffers.specs.declared.Context.{Context}
use Rattle.buffers.specs.Buffers.{stands}
use Rattle.buffers.specs.Shown.{shown}
use Rattle.buffers.specs.Seen.{converts?}
use Rattle.buffers.specs.Kernels.{Lent}
use Rattle.buffers.proofs.ShownInputs.{shown-own, shown-other}
use Rattle.draw_curve.specs.Code.{tabled?, seen_as, CurveTables}

-- a kept pixel, seen
pub seen_as_is : (c : Context) (src ws : List ℕ) (i : Input) (x y : ℕ) → seen_as c i (stands c.w c.h src ws i x y) ≡ shown c src ws i x y
seen_as_is c src ws i x y = go (converts? c i) refl
  where
    go : (b : Bool) → converts? c i ≡ b → cond b (remapped (space_maps c.space) (stands c.w c.h src ws i x y)) (stands c.w c.h src ws i x y) ≡ shown c src ws i x y
    go true e = shown-other c src ws i e x y
    go false e = sym (ap (λ (p : Picture). p x y) (shown-own c src ws i e))

-- a row of kept pixels that is looked up
pub tabled-row : (c : Context) (i : Input) (maps tables src dst dst' : List ℕ) (n : ℕ) → CurveTables c i maps tables → Lent src dst n
    → Painted (looked_up_at tables maps src) 0 0 n dst dst' → Painted (λ x. remapped (maps_in maps) (seen_as c i (pixel_at src (4 * x)))) 0 0 n dst dst'
tabled-row c i maps tables src dst dst' n T L = painted-as _ _ _ _ _ _ _ (λ x l m. T.found _ (L.valid.valid x m) (L.bytes x m))

-- tables made with the table of the conversion, or with none
pub tables-found : (c : Context) (i : Input) (inner maps tables : List ℕ) → tabled? inner ≡ converts? c i → Remaps c.space inner maps tables → CurveTables c i maps tables
tables-found c i inner maps tables e R = record {
  long = R.long;
  found = λ p v b. R.found p v b ∙ ap (remapped (maps_in maps)) (same p (tabled? inner) refl);
}
  where
    same : (p : Pixel) (t : Bool) → tabled? inner ≡ t → seen_by c.space inner p ≡ seen_as c i p
    same p true h =
        let n : eqb (length inner) 0 ≡ false = ne_eqb (length inner) 0 (λ z. absurd (omega (arith, ltb-true 0 (length inner) h, z))) in
        rw (n, ← e, h)
    same p false h =
        let n : eqb (length inner) 0 ≡ true = eq-eqb (length inner) 0 (omega (arith, ltb-false 0 (length inner) h)) in
        rw (n, ← e, h)
