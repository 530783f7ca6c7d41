-- The sums of a pixel's taps, and pixels made of them. Assumes nothing.
use Rattle.std.proofs.Common.{ℕ, ◌+◌, ◌*◌, ◌≤◌, ◌≡◌, refl, ap₂, sym, ◌∙◌, List, [], ◌∷◌, ◌++◌, length, get_or, arith, length-append}
use Rattle.pixel.proofs.PaintedRows.{pixel-is}
use Rattle.kernel_convolve.specs.declared.plan.Plan.{Plan}
use Rattle.kernel_convolve.specs.declared.taps.Sums.{Sums}
use Rattle.kernel_convolve.specs.declared.taps.Tap.{Tap}
use Rattle.kernel_convolve.specs.Code.{tap_sum, Summed, Added, SmallSums, planned_byte, divided_pixel, planned_lane, planned_pixel}
use Rattle.kernel_convolve.proofs.GatheredTaps.{tap-more, tap-none}

pub summed-none : (lines : List ℕ) (i : ℕ) → Summed [] lines i (record { r = 0; g = 0; b = 0; a = 0 })
summed-none lines i = record {
  r = sym (tap-none _);
  g = sym (tap-none _);
  b = sym (tap-none _);
  a = sym (tap-none _);
  small_r = omega arith;
  small_g = omega arith;
  small_b = omega arith;
  small_a = omega arith;
}

-- one tap more
module _ (taps : List Tap) (x : Tap) (lines : List ℕ) (i : ℕ) (s q : Sums) (S : Summed taps lines i s) (A : Added s x.weight lines (x.offset + i) q) where
  one_more : (f : ℕ → ℕ) (a b : ℕ) → a ≡ tap_sum taps f → b ≡ a + x.weight * f x.offset → b ≡ tap_sum (taps ++ x ∷ []) f
  one_more f a b e h = h ∙ ap₂ ◌+◌ e refl ∙ sym (tap-more taps x f)

  pub summed-more : Summed (taps ++ x ∷ []) lines i q
  summed-more =
      let long : length (taps ++ x ∷ []) ≡ length taps + 1 = length-append taps (x ∷ []) in
      record {
        r = one_more (λ o. get_or lines (o + i) 0) _ _ S.r A.r;
        g = one_more (λ o. get_or lines (o + i + 1) 0) _ _ S.g A.g;
        b = one_more (λ o. get_or lines (o + i + 2) 0) _ _ S.b A.b;
        a = one_more (λ o. get_or lines (o + i + 3) 0) _ _ S.a A.a;
        small_r = omega (arith, S.small_r, A.small_r);
        small_g = omega (arith, S.small_g, A.small_g);
        small_b = omega (arith, S.small_b, A.small_b);
        small_a = omega (arith, S.small_a, A.small_a);
      }

-- the sums of at most 25 taps
pub summed-small : (taps : List Tap) (lines : List ℕ) (i : ℕ) (s : Sums) → length taps ≤ 25 → Summed taps lines i s → SmallSums s
summed-small taps lines i s l S = record {
  r = omega (arith, S.small_r);
  g = omega (arith, S.small_g);
  b = omega (arith, S.small_b);
  a = omega (arith, S.small_a);
}

-- the pixel made of the two sums of each channel
pub planned-pixel : (p : Plan) (lines : List ℕ) (i : ℕ) (s t : Sums) → Summed p.up.now lines i s → Summed p.down.now lines i t
    → divided_pixel p s t (get_or lines (p.own + i) 0) ≡ planned_pixel p lines i
unfolding planned_lane
planned-pixel p lines i s t S T =
    let lane : (x y : ℕ) → ℕ = λ x y. planned_byte p x y (get_or lines (p.own + i) 0) in
    pixel-is _ _ (ap₂ lane S.r T.r) (ap₂ lane S.g T.g) (ap₂ lane S.b T.b) (ap₂ lane S.a T.a)
