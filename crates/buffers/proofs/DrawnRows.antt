-- A drawn rectangle, row by row, and the layers it leaves. Assumes nothing.
use mathlib.Core.Path.{◌≡◌, refl, sym, ◌∙◌, fun_ext}
use mathlib.Core.List.{List}
use mathlib.Core.Logic.{◌⊎◌, inl, inr, ⊎_elim, ◌≢◌}
use Prim.Native.Nat.{ℕ, ◌+◌, ◌*◌, ◌≤◌, ◌<◌, max}
use native.Mathlib.Nat.{mul-le-mul_right}
use native.Mathlib.Omega.{arith}
use native.Mathlib.Decide.{ℕ_discrete}
use Rattle.window.proofs.Store.{lt-or-le}
use Rattle.pixel.specs.declared.Pixel.{Pixel}
use Rattle.pixel.specs.Bytes.{pixel_at, Painted}
use Rattle.filter.specs.declared.Rect.{Rect}
use Rattle.filter.specs.Rect.{In, canvas_of}
use Rattle.filter.specs.Picture.{Picture, patch}
use Rattle.filter.specs.Bytes.{size, read}
use Rattle.filter.proofs.PlacesInRects.{in?}
use Rattle.filter.proofs.Patches.{patch-in, patch-out}
use Rattle.buffers.specs.Drawn.{Drawn, band}
use Rattle.window.proofs.Numbers.{line-end}
use Rattle.pixel.proofs.PaintedRows.{pixel-same}
use Rattle.buffers.proofs.RowsFit.{row_ends}
use Rattle.buffers.proofs.StandingPictures.{read_same}

-- nothing to draw
pub drawn-none : (w h n : ℕ) (r : Rect) (new : Picture) (d : List ℕ) → ((x y : ℕ) → ¬ In r x y) → Drawn w h n r new d d
drawn-none w h n r new d e = record {
  inside = λ x y i. absurd (e x y i);
  outside = λ x y lx ly o. refl;
  others = λ k x y ne lx ly. refl;
  long = refl;
}

-- a rectangle of the same places
pub drawn-as : (w h n : ℕ) (r r' : Rect) (new : Picture) (d d' : List ℕ) → ((x y : ℕ) → In r x y → In r' x y) → ((x y : ℕ) → In r' x y → In r x y) → Drawn w h n r new d d' → Drawn w h n r' new d d'
drawn-as w h n r r' new d d' f g D = record {
  inside = λ x y i. D.inside x y (g x y i);
  outside = λ x y lx ly o. D.outside x y lx ly (λ i. o (f x y i));
  others = D.others;
  long = D.long;
}

-- all rows of the rectangle
pub drawn-all : (w h n : ℕ) (r : Rect) (y : ℕ) (new : Picture) (d d' : List ℕ) → y ≤ max r.top r.bottom → r.bottom ≤ y → Drawn w h n (band r.left r.right r.top y) new d d' → Drawn w h n r new d d'
drawn-all w h n r y new d d' l m = drawn-as w h n (band r.left r.right r.top y) r new d d'
    (λ x v i. record { left = i.left; right = i.right; top = i.top; bottom = omega (arith, i.bottom, i.top, l) })
    (λ x v i. record { left = i.left; right = i.right; top = i.top; bottom = omega (arith, i.bottom, m) })

-- a picture that is the same inside the rectangle
pub drawn-new : (w h n : ℕ) (r : Rect) (f g : Picture) (d d' : List ℕ) → ((x y : ℕ) → In r x y → f x y ≡ g x y) → Drawn w h n r f d d' → Drawn w h n r g d d'
drawn-new w h n r f g d d' e D = record {
  inside = λ x y i. D.inside x y i ∙ e x y i;
  outside = D.outside;
  others = D.others;
  long = D.long;
}

-- a pixel before or after what was painted
painted-away : (f : ℕ → Pixel) (o from to : ℕ) (d d' : List ℕ) → Painted f o from to d d' → (i : ℕ) → (i + 4 ≤ o + 4 * from) ⊎ (o + 4 * to ≤ i) → pixel_at d' i ≡ pixel_at d i
painted-away f o from to d d' P i = ⊎_elim
    (λ l. pixel-same d' d i i (λ c k. P.before (i + c) (omega arith)))
    (λ l. pixel-same d' d i i (λ c k. P.after (i + c) (omega arith)))

-- one row more
module _ (w h n a b t y : ℕ) (new : Picture) (d₀ d d' : List ℕ) (D : Drawn w h n (band a b t y) new d₀ d) (P : Painted (λ x. new x y) (n * size w h + 4 * (y * w)) a b d d')
    (from : t ≤ y) (some : a ≤ b) (wide : b ≤ w) (high : y < h) where
  other_row : (x v : ℕ) → x < w → v ≢ y → pixel_at d' (n * size w h + 4 * (v * w + x)) ≡ pixel_at d (n * size w h + 4 * (v * w + x))
  other_row x v lx ne = painted-away _ _ _ _ d d' P _ (⊎_elim
      (λ l. inl (omega (arith, mul-le-mul_right w l)))
      (λ l. let l' : y < v = omega arith in inr (omega (arith, mul-le-mul_right w l')))
      (lt-or-le v y))

  other-layer : (k x v : ℕ) → ¬ (k ≡ n) → x < w → v < h → pixel_at d' (k * size w h + 4 * (v * w + x)) ≡ pixel_at d (k * size w h + 4 * (v * w + x))
  other-layer k x v ne lx ly =
      let end : 4 * (v * w) + 4 * w ≤ size w h = row_ends w h v ly in
      let end' : 4 * (y * w) + 4 * w ≤ size w h = row_ends w h y high in
      painted-away _ _ _ _ d d' P _ (⊎_elim
      (λ l. inl (omega (arith, line-end (size w h) n k l)))
      (λ l. let l' : n < k = omega arith in inr (omega (arith, line-end (size w h) k n l')))
      (lt-or-le k n))

  beside : (x : ℕ) → (x < a) ⊎ (b ≤ x) → pixel_at d' (n * size w h + 4 * (y * w + x)) ≡ pixel_at d (n * size w h + 4 * (y * w + x))
  beside x s = painted-away _ _ _ _ d d' P _ (⊎_elim (λ l. inl (omega arith)) (λ l. inr (omega arith)) s)

  this-row : (x : ℕ) → x < w → ¬ In (band a b t (y + 1)) x y → pixel_at d' (n * size w h + 4 * (y * w + x)) ≡ pixel_at d₀ (n * size w h + 4 * (y * w + x))
  this-row x lx o =
      beside x (⊎_elim (λ l. inl l) (λ l. ⊎_elim (λ m. absurd (o (record { left = l; right = m; top = omega arith; bottom = omega arith }))) (λ m. inr m) (lt-or-le x b)) (lt-or-le x a))
      ∙ D.outside x y lx high (λ i. o (record { left = i.left; right = i.right; top = i.top; bottom = omega arith }))

  pub drawn-more : Drawn w h n (band a b t (y + 1)) new d₀ d'
  drawn-more = record {
    inside = λ x v i. ⊎_elim
        (λ l. other_row x v (omega arith) (omega arith) ∙ D.inside x v (record { left = omega arith; right = omega arith; top = omega arith; bottom = l }))
        (λ l. let e : v ≡ y = omega arith in
        let g : n * size w h + 4 * (y * w + x) ≡ n * size w h + 4 * (y * w) + 4 * x = omega arith in rw (e, g) (P.inside x (omega arith) (omega arith)))
        (lt-or-le v y);
    outside = λ x v lx ly o. elim (ℕ_discrete v y) [
      | yes e ↦ rw e (this-row x lx (rw e at o))
      | no ne ↦ other_row x v lx ne ∙ D.outside x v lx ly (λ i. o (record { left = i.left; right = i.right; top = i.top; bottom = omega arith }))
    ];
    others = λ k x v ne lx ly. other-layer k x v ne lx ly ∙ D.others k x v ne lx ly;
    long = P.long ∙ D.long;
  }

module _ (w h n : ℕ) (r : Rect) (new : Picture) (d d' : List ℕ) (D : Drawn w h n r new d d') where
  -- layer n is patched
  pub drawn-here : r.right ≤ w → r.bottom ≤ h → read w h d' (n * size w h) ≡ patch r new (read w h d (n * size w h))
  unfolding read
  drawn-here lw lh = fun_ext λ x. fun_ext λ y. go x y (in? r x y) (in? (canvas_of w h) x y)
    where
      go : (x y : ℕ) → Dec (In r x y) → Dec (In (canvas_of w h) x y) → read w h d' (n * size w h) x y ≡ patch r new (read w h d (n * size w h)) x y
      go x y (yes i) (yes c) = patch-in _ _ _ c ∙ D.inside x y i ∙ sym (patch-in _ _ _ i)
      go x y (yes i) (no c) = absurd (c (record { left = omega arith; right = omega arith; top = omega arith; bottom = omega arith }))
      go x y (no i) (yes c) = patch-in _ _ _ c ∙ D.outside x y (omega arith) (omega arith) i ∙ sym (patch-in _ _ _ c) ∙ sym (patch-out r new _ i)
      go x y (no i) (no c) = patch-out _ _ _ c ∙ sym (patch-out _ _ _ c) ∙ sym (patch-out r new _ i)

  -- the other layers stay
  pub drawn-other : (k : ℕ) → ¬ (k ≡ n) → read w h d' (k * size w h) ≡ read w h d (k * size w h)
  drawn-other k ne = read_same w h d' d (k * size w h) (λ x y. D.others k x y ne)
