-- The bytes of a row of planned pixels are those of the definition. Assumes nothing.
use Prim.Native.Nat.{ℕ, zero, suc, ◌+◌, ◌-◌, ◌*◌, ◌/◌, ◌%◌, ◌≤◌, ◌<◌, min}
use mathlib.Core.Path.{◌≡◌, refl, ap, ap₂, sym, ◌∙◌}
use mathlib.Core.Bool.{Bool, true, false, not, cond}
use mathlib.Core.List.{List}
use mathlib.Core.Logic.{⊎_elim}
use native.Mathlib.Omega.{arith}
use lib.Dec.{ltb}
use lib.IntN.{ℤ, pos, negsuc}
use lib.ListN.{get_or}
use borrow.Author.Tests.{ltb-true, ltb-false, le-ltb}
use Rattle.window.specs.Store.{Filled}
use Rattle.window.proofs.Store.{lt-or-le}
use Rattle.number.specs.Number.{value}
use Rattle.number.specs.declared.Fixed.{Fixed}
use Rattle.pixel.specs.declared.Pixel.{Pixel}
use Rattle.pixel.specs.declared.Convolution.{Convolution}
use Rattle.pixel.specs.Bytes.{pixel_at, Painted}
use Rattle.pixel.specs.Convolve.{cells, divisor_of, bias_of, quotient}
use Rattle.pixel.proofs.SignedSums.{Diff}
use Rattle.kernel_lines.specs.Lines.{line_bytes}
use Rattle.kernel_lines.specs.Convolved.{value_at, own_alpha, lane_sum, lane_byte}
use Rattle.kernel_convolve.specs.declared.plan.Plan.{Plan}
use Rattle.kernel_convolve.specs.Code.{tap_sum, Gathered, lift_over, lift_under, planned_lane, planned_pixel}
use Rattle.kernel_convolve.proofs.QuotientByNaturals.{quotient-above, quotient-below}
use Rattle.kernel_convolve.proofs.GatheredTaps.{lane-diff}

-- bytes of pixels
pub filled-pixels : (f : ℕ → Pixel) (g : ℕ → ℕ) (n : ℕ) (d d' : List ℕ)
    → ((x : ℕ) → ((f x).r ≡ g (4 * x)) × ((f x).g ≡ g (4 * x + 1)) × ((f x).b ≡ g (4 * x + 2)) × ((f x).a ≡ g (4 * x + 3)))
    → Painted f 0 0 n d d' → Filled g 0 (4 * n) d d'
filled-pixels f g n d d' e P = record {
  inside = λ b lo hi.
      let whole : 4 * (b / 4) + b % 4 ≡ b = omega arith in
      rw whole at (byte (b / 4) (b % 4) (omega arith) (omega arith));
  before = λ i h. absurd (omega arith);
  after = λ i h. P.after i (omega arith);
  long = P.long;
}
  where
    at : (x : ℕ) → x < n → pixel_at d' (4 * x) ≡ f x
    at x l = let z : 0 + 4 * x ≡ 4 * x = omega arith in rw z at (P.inside x (omega arith) l)

    byte : (x r : ℕ) → r < 4 → x < n → get_or d' (4 * x + r) 0 ≡ g (4 * x + r)
    byte x zero m l = let z : 4 * x + 0 ≡ 4 * x = omega arith in rw z (ap (λ (p : Pixel). p.r) (at x l) ∙ (e x).0)
    byte x (suc zero) m l = ap (λ (p : Pixel). p.g) (at x l) ∙ (e x).1
    byte x (suc (suc zero)) m l = ap (λ (p : Pixel). p.b) (at x l) ∙ (e x).2
    byte x (suc (suc (suc zero))) m l = ap (λ (p : Pixel). p.a) (at x l) ∙ (e x).3
    byte x (suc (suc (suc (suc r)))) m l = absurd (omega arith)

-- how far from zero
pub distance : (r : Fixed) → (value r ≡ pos 0 → ⊥) → 0 < r.above - r.below + (r.below - r.above)
distance r ne = ⊎_elim
    (λ l. omega arith)
    (λ l. ⊎_elim
    (λ m. omega arith)
    (λ m. let e : r.above - r.below ≡ 0 = omega arith in absurd (ne (rw (le-ltb r.above r.below l, e) refl)))
    (lt-or-le r.below r.above))
    (lt-or-le r.above r.below)

module _ (k : Convolution) (v : List Fixed) (r : Fixed) (p : Plan) (lines : List ℕ)
    (divisor : value r ≡ divisor_of k (value_at v))
    (size : p.divisor.size ≡ r.above - r.below + (r.below - r.above))
    (bias : value p.bias ≡ bias_of k (value_at v))
    (own : p.own ≡ k.row * line_bytes + 4 * k.column + 3) where
  -- a channel; t: the divisor is below zero
  lane-is : (t : Bool) → ltb r.above r.below ≡ t → Gathered k v t (cells k) p.up.now
      → Gathered k v (not t) (cells k) p.down.now → (f : ℕ → ℕ) (i b : ℕ) → ((o : ℕ) → f o ≡ get_or lines (o + b) 0) → i ≡ 4 * (b / 4)
      → planned_lane p lines i f ≡ lane_byte k v lines b
  unfolding planned_lane lane_byte
  lane-is true e G H f i b ef ei =
      let d : ℕ = r.below - suc r.above in
      let l : r.above < r.below = ltb-true _ _ e in
      let A : ℕ = tap_sum p.up.now f in
      let B : ℕ = tap_sum p.down.now f in
      let a : ℕ = get_or lines (p.own + i) 0 in
      let at : k.row * line_bytes + (4 * (b / 4 + k.column) + 3) ≡ p.own + i = omega (arith, own, ei) in
      let far : suc d ≡ p.divisor.size = omega (arith, size, l) in
      let h : Diff (lane_sum k v lines b) B A = rw (G.adds f, H.adds f) (lane-diff k v lines b f ef) in
      sym
      (ap₂ (λ (x y : ℤ). quotient (lane_sum k v lines b) x (own_alpha k lines (b / 4)) y) (sym bias)
      (sym divisor ∙ ap (λ (t : Bool). cond t (negsuc d) (pos (r.above - r.below))) e)
      ∙ ap (λ (x : ℕ). quotient (lane_sum k v lines b) (value p.bias) (get_or lines x 0) (negsuc d)) at
      ∙ quotient-below (lane_sum k v lines b) p.bias a d A B h
      ∙ ap (λ (x : ℕ). min ((A + lift_over p.bias x a - (B + lift_under p.bias x a)) / x) 255) far)
  lane-is false e G H f i b ef ei =
      let d : ℕ = r.above - r.below in
      let l : r.below ≤ r.above = ltb-false _ _ e in
      let A : ℕ = tap_sum p.up.now f in
      let B : ℕ = tap_sum p.down.now f in
      let a : ℕ = get_or lines (p.own + i) 0 in
      let at : k.row * line_bytes + (4 * (b / 4 + k.column) + 3) ≡ p.own + i = omega (arith, own, ei) in
      let far : d ≡ p.divisor.size = omega (arith, size, l) in
      let h : Diff (lane_sum k v lines b) A B = rw (G.adds f, H.adds f) (lane-diff k v lines b f ef) in
      sym
      (ap₂ (λ (x y : ℤ). quotient (lane_sum k v lines b) x (own_alpha k lines (b / 4)) y) (sym bias)
      (sym divisor ∙ ap (λ (t : Bool). cond t (negsuc (r.below - suc r.above)) (pos d)) e)
      ∙ ap (λ (x : ℕ). quotient (lane_sum k v lines b) (value p.bias) (get_or lines x 0) (pos d)) at
      ∙ quotient-above (lane_sum k v lines b) p.bias a d A B h
      ∙ ap (λ (x : ℕ). min ((A + lift_over p.bias x a - (B + lift_under p.bias x a)) / x) 255) far)

  pub summed-row : Gathered k v (ltb r.above r.below) (cells k) p.up.now
      → Gathered k v (not (ltb r.above r.below)) (cells k) p.down.now
      → (left count : ℕ) (out out' : List ℕ) → Painted (λ x. planned_pixel p lines (4 * (left + x))) 0 0 count out out'
      → Filled (λ b. lane_byte k v lines (4 * left + b)) 0 (4 * count) out out'
  summed-row G H left count out out' P = filled-pixels _ _ count out out' (λ x. (
    lane (λ o. get_or lines (o + 4 * (left + x)) 0) x (4 * x)
        (λ o. let e : o + 4 * (left + x) ≡ o + (4 * left + 4 * x) = omega arith in ap (λ (n : ℕ). get_or lines n 0) e) (omega arith),
    lane (λ o. get_or lines (o + 4 * (left + x) + 1) 0) x (4 * x + 1)
        (λ o. let e : o + 4 * (left + x) + 1 ≡ o + (4 * left + (4 * x + 1)) = omega arith in ap (λ (n : ℕ). get_or lines n 0) e) (omega arith),
    lane (λ o. get_or lines (o + 4 * (left + x) + 2) 0) x (4 * x + 2)
        (λ o. let e : o + 4 * (left + x) + 2 ≡ o + (4 * left + (4 * x + 2)) = omega arith in ap (λ (n : ℕ). get_or lines n 0) e) (omega arith),
    lane (λ o. get_or lines (o + 4 * (left + x) + 3) 0) x (4 * x + 3)
        (λ o. let e : o + 4 * (left + x) + 3 ≡ o + (4 * left + (4 * x + 3)) = omega arith in ap (λ (n : ℕ). get_or lines n 0) e) (omega arith),
  )) P
    where
      lane : (f : ℕ → ℕ) (x c : ℕ) → ((o : ℕ) → f o ≡ get_or lines (o + (4 * left + c)) 0) → 4 * (left + x) ≡ 4 * ((4 * left + c) / 4)
          → planned_lane p lines (4 * (left + x)) f ≡ lane_byte k v lines (4 * left + c)
      lane f x c ef ei = lane-is (ltb r.above r.below) refl G H f (4 * (left + x)) (4 * left + c) ef ei
