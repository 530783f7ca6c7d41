-- A layer that is cleared as a whole, and one whose rectangle holds the canvas. Assumes nothing.
use Prim.Native.Nat.{ℕ, ◌+◌, ◌*◌, ◌≤◌, ◌<◌}
use mathlib.Core.Path.{◌≡◌, refl, ap, ◌∙◌}
use mathlib.Core.Bool.{Bool, true, false, ◌&&◌, false≢true}
use mathlib.Core.List.{List}
use mathlib.Core.Logic.{⊎_elim}
use native.Mathlib.Omega.{arith}
use lib.Dec.{eqb, leb}
use borrow.Author.Tests.{eq-eqb, ne_eqb, eqb-true, le-leb, lt-leb, leb-true}
use Rattle.window.proofs.Store.{lt-or-le}
use Rattle.pixel.specs.Alpha.{clear}
use Rattle.pixel.specs.Bytes.{pixel_at, Painted}
use Rattle.window.proofs.Numbers.{line-end}
use Rattle.pixel.proofs.PaintedRows.{pixel-same}
use Rattle.filter.specs.declared.Rect.{Rect}
use Rattle.filter.specs.Rect.{In}
use Rattle.filter.specs.Bytes.{size}
use Rattle.buffers.proofs.RowsFit.{row_ends}
use Rattle.buffers.proofs.RowStarts.{layer-bytes}
use Rattle.draw.specs.ClearedAround.{ClearedAround}
use Rattle.draw.specs.CoversCanvas.{covers?}

-- every place of the canvas is in the rectangle
covers-in : (w h : ℕ) (r : Rect) → covers? w h r ≡ true → (x y : ℕ) → x < w → y < h → In r x y
unfolding covers?
covers-in w h r t x y lx ly = go _ _ _ _ refl refl refl refl t
  where
    go : (a b c d : Bool) → eqb r.left 0 ≡ a → leb w r.right ≡ b → eqb r.top 0 ≡ c → leb h r.bottom ≡ d → (a && (b && (c && d))) ≡ true → In r x y
    go false b c d ea eb ec ed e = absurd (false≢true e)
    go true false c d ea eb ec ed e = absurd (false≢true e)
    go true true false d ea eb ec ed e = absurd (false≢true e)
    go true true true false ea eb ec ed e = absurd (false≢true e)
    go true true true true ea eb ec ed e = record {
      left = omega (arith, eqb-true r.left 0 ea);
      right = omega (arith, leb-true w r.right eb);
      top = omega (arith, eqb-true r.top 0 ec);
      bottom = omega (arith, leb-true h r.bottom ed);
    }

-- the tests, one after another
module _ (w h : ℕ) (r : Rect) where
  pub covers_left : (r.left ≡ 0 → ⊥) → false ≡ covers? w h r
  unfolding covers?
  covers_left a = simp (ne_eqb _ _ a)

  pub covers_right : r.left ≡ 0 → r.right < w → false ≡ covers? w h r
  unfolding covers?
  covers_right a b = simp (eq-eqb _ _ a, lt-leb _ _ b)

  pub covers_top : r.left ≡ 0 → w ≤ r.right → (r.top ≡ 0 → ⊥) → false ≡ covers? w h r
  unfolding covers?
  covers_top a b c = simp (eq-eqb _ _ a, le-leb _ _ b, ne_eqb _ _ c)

  pub covers_bottom : r.left ≡ 0 → w ≤ r.right → r.top ≡ 0 → leb h r.bottom ≡ covers? w h r
  unfolding covers?
  covers_bottom a b c = simp (eq-eqb _ _ a, le-leb _ _ b, eq-eqb _ _ c)

pub ruleset covering = (covers_left, covers_right, covers_top, covers_bottom)

pub cleared-covered : (w h n : ℕ) (r : Rect) (d : List ℕ) → covers? w h r ≡ true → ClearedAround w h n r d d
cleared-covered w h n r d t = record {
  outside = λ x y lx ly o. absurd (o (covers-in w h r t x y lx ly));
  others = λ k x y ne lx ly. refl;
  long = refl;
}

pub cleared-all : (w h n : ℕ) (r : Rect) (d d' : List ℕ) → Painted (λ x. clear) 0 (n * (w * h)) (n * (w * h) + w * h) d d' → ClearedAround w h n r d d'
cleared-all w h n r d d' P = record {
  outside = λ x y lx ly o.
      let e : n * size w h + 4 * (y * w + x) ≡ 0 + 4 * (n * (w * h) + (y * w + x)) = omega (arith, layer-bytes w h n) in
      ap (pixel_at d') e ∙ P.inside (n * (w * h) + (y * w + x)) (omega arith) (omega (arith, row_ends w h y ly));
  others = λ k x y ne lx ly.
      let end : 4 * (y * w) + 4 * w ≤ size w h = row_ends w h y ly in
      let at : n * size w h ≡ 4 * (n * (w * h)) = layer-bytes w h n in
      pixel-same d' d _ _ (λ c lc. ⊎_elim
      (λ l. P.before _ (omega (arith, line-end (size w h) n k l)))
      (λ l. let l' : n < k = omega arith in P.after _ (omega (arith, line-end (size w h) k n l')))
      (lt-or-le k n));
  long = P.long;
}
