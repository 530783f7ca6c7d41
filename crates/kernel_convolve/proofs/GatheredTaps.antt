-- Taps gathered: one tap more, and what they add up to over the lines. Assumes nothing.
use Rattle.std.proofs.Common.{ℕ, suc, ◌+◌, ◌-◌, ◌*◌, ◌/◌, ◌%◌, ◌≤◌, ◌<◌, ◌≡◌, refl, ap, ap₂, sym, ◌∙◌, Bool, true, false, List, [], ◌∷◌, ◌++◌, get_or, arith, length-append}
use Rattle.std.proofs.lemmas.List.Sums.{sum_by-append}
use native.Mathlib.Nat.{mul-add-div, mul-add-mod_self_left, mod-eq_of_lt, div-eq_of_lt, mul-add, mul_comm, zero-mul, mul-suc}
use Rattle.pixel.specs.Coefficient.{Allowed}
use Rattle.kernel_convolve.specs.declared.taps.Tap.{Tap}
use Rattle.number.specs.declared.Fixed.{Fixed}
use Rattle.pixel.specs.declared.Convolution.{Convolution}
use Rattle.pixel.specs.Convolve.{cells}
use Rattle.pixel.proofs.SignedSums.{Diff, diff-sub, diff-mul}
use Rattle.kernel_lines.specs.Lines.{line_byte}
use Rattle.kernel_lines.specs.Convolved.{value_at, lane_sum}
use Rattle.kernel_convolve.specs.Code.{part_of, offset_of, tap_sum, turned, Gathered}
use Rattle.kernel_convolve.proofs.Totals.{fold-more, fold-none, fold-flat}
use Rattle.kernel_taps.proofs.DoubleSums.{sum-diff}
use Rattle.window.specs.Window.{fold}

-- one tap more
pub tap-more : (taps : List Tap) (x : Tap) (f : ℕ → ℕ) → tap_sum (taps ++ x ∷ []) f ≡ tap_sum taps f + x.weight * f x.offset
unfolding tap_sum
tap-more taps x f = omega (arith, sum_by-append (λ (t : Tap). t.weight * f t.offset) taps (x ∷ []))

pub tap-none : (f : ℕ → ℕ) → tap_sum [] f ≡ 0
unfolding tap_sum
tap-none f = refl

pub part_small : (below : Bool) (u : Fixed) → Allowed u → part_of below u ≤ 16777216
part_small true u h = h.below
part_small false u h = h.above

module _ (k : Convolution) (v : List Fixed) (below : Bool) where
  pub gathered_none : Gathered k v below 0 []
  gathered_none = record { fewer = omega arith; adds = λ f. tap-none f ∙ sym (fold-none _) }

  module _ (m : ℕ) (taps : List Tap) (G : Gathered k v below m taps) where
    -- a tap counts where its weight is not 0
    pub gathered-more : (x : Tap) → x.weight ≡ turned k v below m → x.offset ≡ offset_of k.columns m → Gathered k v below (m + 1) (taps ++ x ∷ [])
    gathered-more x w o = record {
      fewer = omega (arith, length-append taps (x ∷ []), G.fewer);
      adds = λ f.
          tap-more taps x f
          ∙ ap₂ ◌+◌ (G.adds f) (ap₂ (λ (a b : ℕ). a * f b) w o)
          ∙ sym (fold-more m (λ t. turned k v below t * f (offset_of k.columns t)));
    }

    pub gathered-same : turned k v below m ≡ 0 → Gathered k v below (m + 1) taps
    gathered-same none = record {
      fewer = omega (arith, G.fewer);
      adds = λ f.
          let nothing : turned k v below m * f (offset_of k.columns m) ≡ 0 = rw none (zero-mul (f (offset_of k.columns m))) in
          G.adds f ∙ sym (fold-more m (λ t. turned k v below t * f (offset_of k.columns t)) ∙ omega (arith, nothing));
    }

-- the kernel turned half round, one tap after another
turned-at : (columns rows i j : ℕ) → i < rows → j < columns → columns * rows - 1 - (columns * i + j) ≡ (rows - 1 - i) * columns + (columns - 1 - j)
turned-at columns rows i j l m =
    let r : ℕ = rows - 1 - i in
    let e : rows ≡ suc (i + r) = omega arith in
    let q : columns * rows ≡ columns * i + columns * r + columns
    = ap (λ (n : ℕ). columns * n) e ∙ mul-suc columns (i + r) ∙ ap (λ (n : ℕ). n + columns) (mul-add columns i r) in
    omega (arith, q, mul_comm r columns)

place_at : (columns i j : ℕ) → j < columns → offset_of columns (columns * i + j) ≡ i * 4112 + 4 * j
place_at columns i j l =
    let p : 0 < columns = omega arith in
    let q : (columns * i + j) / columns ≡ i = mul-add-div p i j ∙ ap (λ (n : ℕ). i + n) (div-eq_of_lt l) ∙ omega arith in
    let r : (columns * i + j) % columns ≡ j = mul-add-mod_self_left columns i j ∙ mod-eq_of_lt l in
    ap₂ (λ (x y : ℕ). x * 4112 + 4 * y) q r

-- what is above zero, and what is below it
flat : (k : Convolution) (v : List Fixed) (lines : List ℕ) (b : ℕ) (f : ℕ → ℕ) (below : Bool) → ((o : ℕ) → f o ≡ get_or lines (o + b) 0)
    → fold ◌+◌ 0 k.rows (λ i. fold ◌+◌ 0 k.columns (λ j.
    part_of below (value_at v ((k.rows - 1 - i) * k.columns + (k.columns - 1 - j))) * line_byte lines i (b + 4 * j)))
    ≡ fold ◌+◌ 0 (cells k) (λ t. turned k v below t * f (offset_of k.columns t))
flat k v lines b f below e = fold-flat k.rows k.columns
    (λ i j. part_of below (value_at v ((k.rows - 1 - i) * k.columns + (k.columns - 1 - j))) * line_byte lines i (b + 4 * j))
    (λ t. turned k v below t * f (offset_of k.columns t))
    (λ i j l m.
    let place : i * 4112 + (b + 4 * j) ≡ i * 4112 + 4 * j + b = omega arith in
    ap₂ (λ (x y : ℕ). part_of below (value_at v x) * y) (sym (turned-at k.columns k.rows i j l m))
    (ap (λ (x : ℕ). get_or lines x 0) place ∙ sym (e (i * 4112 + 4 * j)) ∙ ap f (sym (place_at k.columns i j m))))

-- the kernel's sum over the lines is the difference of the two sums of taps
pub lane-diff : (k : Convolution) (v : List Fixed) (lines : List ℕ) (b : ℕ) (f : ℕ → ℕ) → ((o : ℕ) → f o ≡ get_or lines (o + b) 0)
    → Diff (lane_sum k v lines b) (fold ◌+◌ 0 (cells k) (λ t. turned k v false t * f (offset_of k.columns t)))
    (fold ◌+◌ 0 (cells k) (λ t. turned k v true t * f (offset_of k.columns t)))
unfolding lane_sum
lane-diff k v lines b f e =
    rw (← flat k v lines b f false e, ← flat k v lines b f true e)
    (sum-diff k.rows _ _ _ (λ i l. sum-diff k.columns _ _ _ (λ j m. diff-mul _ (diff-sub _ _))))
