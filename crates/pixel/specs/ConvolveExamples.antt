-- Worked examples of the parts of a convolution; values worked by hand. Assumes nothing.
use Rattle.std.specs.Prelude.{ℕ, ◌+◌, ◌*◌, ◌≡◌, refl, Bool, true, false, [], ◌∷◌, get_or, pos, negsuc}
use Rattle.number.specs.declared.Fixed.{Fixed}
use Rattle.pixel.specs.declared.Pixel.{Pixel}
use Rattle.pixel.specs.declared.Edge.{Edge}
use Rattle.pixel.specs.declared.Edge.TheVariants.{Duplicate, Wrap, None}
use Rattle.pixel.specs.declared.Convolution.{Convolution}
use Rattle.pixel.specs.Alpha.{pixel}
use Rattle.pixel.specs.Convolve.{sum, divisor_of, bias_of, extended, quotient, neighbour, weighed}

-- places with the alphas 10, 20, 30, transparent black behind them: along a row, and down a column
abbrev pub three : ℕ → Pixel
three p = pixel 0 0 0 (get_or (10 ∷ 20 ∷ 30 ∷ []) p 0)

abbrev pub along : ℕ → ℕ → Pixel
along x y = three (x + 3 * y)

abbrev pub down : ℕ → ℕ → Pixel
down x y = three (3 * x + y)

-- the numbers 1, 2, 3, −4 and 5, in units
abbrev pub above : ℕ → Fixed
above n = record { above = n; below = 0 }

abbrev pub numbers : ℕ → Fixed
numbers i = get_or (above 1 ∷ above 2 ∷ above 3 ∷ record { above = 0; below = 4 } ∷ above 5 ∷ []) i (above 0)

abbrev pub kernel : ℕ → ℕ → ℕ → ℕ → Bool → Convolution
kernel n m t u d = record { columns = n; rows = m; divided = d; column = t; row = u; preserve = false; edge = None }

abbrev pub at : Edge → ℕ → ℕ → ℕ
at e t i = (extended e 3 t three i).a

pub record Parts : Type 0 where
  -- the place i − t: before the first, the second, behind the last
  pub duplicate : (at Duplicate 1 0 ≡ 10) × (at Duplicate 1 2 ≡ 20) × (at Duplicate 1 5 ≡ 30)
  pub wrap : (at Wrap 1 0 ≡ 30) × (at Wrap 1 2 ≡ 20) × (at Wrap 1 5 ≡ 20) × (at Wrap 4 0 ≡ 30)
  pub none : (at None 1 0 ≡ 0) × (at None 1 2 ≡ 20) × (at None 1 4 ≡ 0)
  -- 3 · 10 + 2 · 20 + 1 · 30 across; 2 · 10 + 1 · 20 down, the target above
  pub turned : (weighed 3 1 (kernel 3 1 1 0 false) numbers along 1 0 (λ p. p.a) ≡ pos 100)
      × (weighed 1 3 (kernel 1 2 0 0 false) numbers down 0 0 (λ p. p.a) ≡ pos 40)
  -- 1 + 2 + 3; 1 + 2 + 3 − 4; the number behind two values; its sum 0 stands for 65,536
  pub divisors : (divisor_of (kernel 3 1 0 0 false) numbers ≡ pos 6) × (divisor_of (kernel 2 2 0 0 false) numbers ≡ pos 2)
      × (divisor_of (kernel 2 1 0 0 true) numbers ≡ pos 3) × (divisor_of (kernel 1 1 0 0 false) (λ i. above 0) ≡ pos 65536)
  -- behind the values, and behind the divisor
  pub biases : (bias_of (kernel 3 1 0 0 false) numbers ≡ negsuc 3) × (bias_of (kernel 3 1 0 0 true) numbers ≡ pos 5)
  -- 101 / 2 is 50.5, which goes up; so do −101 / −2 and 101 / −2 + 1 · 101
  pub ties : (quotient (pos 6619136) (pos 0) 7 (pos 131072) ≡ 51) × (quotient (negsuc 6619135) (pos 0) 7 (negsuc 131071) ≡ 51)
      × (quotient (pos 6619136) (pos 65536) 101 (negsuc 131071) ≡ 51)
  -- 100 + 0.25 · 128; 300 and −1 are limited
  pub limits : (quotient (pos 6553600) (pos 16384) 128 (pos 65536) ≡ 132) × (quotient (pos 19660800) (pos 0) 0 (pos 65536) ≡ 255)
      × (quotient (negsuc 65535) (pos 0) 255 (pos 65536) ≡ 0)

pub parts : Parts
unfolding sum divisor_of extended quotient neighbour weighed
parts = record {
  duplicate = (refl, refl, refl);
  wrap = (refl, refl, refl, refl);
  none = (refl, refl, refl);
  turned = (refl, refl);
  divisors = (refl, refl, refl, refl);
  biases = (refl, refl);
  ties = (refl, refl, refl);
  limits = (refl, refl, refl);
}
