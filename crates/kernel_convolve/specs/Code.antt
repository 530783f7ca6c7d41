-- What the code's own steps work out. No promise to a caller cites these. Assumes nothing.
use Rattle.std.specs.Prelude.{ℕ, ◌+◌, ◌-◌, ◌*◌, ◌/◌, ◌%◌, ◌≤◌, min, ◌≡◌, Bool, cond, List, length, get_or}
use Rattle.window.specs.Window.{fold}
use Rattle.number.specs.declared.Fixed.{Fixed}
use Rattle.pixel.specs.declared.Pixel.{Pixel}
use Rattle.pixel.specs.declared.Convolution.{Convolution}
use Rattle.pixel.specs.Alpha.{pixel}
use Rattle.pixel.specs.Convolve.{cells}
use Rattle.kernel_lines.specs.Lines.{line_bytes}
use Rattle.kernel_lines.specs.Convolved.{value_at}
use Rattle.kernel_convolve.specs.declared.taps.Sums.{Sums}
use Rattle.kernel_convolve.specs.declared.taps.Tap.{Tap}
use Rattle.std.specs.List.{sum_by}
use Rattle.kernel_convolve.specs.declared.plan.Plan.{Plan}

-- what is below zero, or what is above it
abbrev pub part_of : Bool → Fixed → ℕ
part_of below v = cond below v.below v.above

-- tap t goes with this byte of the lines, and those behind it
abbrev pub offset_of : ℕ → ℕ → ℕ
offset_of columns t = t / columns * line_bytes + 4 * (t % columns)

-- what taps add up to, over what stands at each offset
unfoldable pub tap_sum : List Tap → (ℕ → ℕ) → ℕ
tap_sum taps f = sum_by (λ (t : Tap). t.weight * f t.offset) taps

-- the weight of tap t: the kernel turned half round
abbrev pub turned : Convolution → List Fixed → Bool → ℕ → ℕ
turned k v below t = part_of below (value_at v (cells k - 1 - t))

-- the first m taps, without those that have no weight
pub record Gathered (k : Convolution) (v : List Fixed) (below : Bool) (m : ℕ) (taps : List Tap) : Type 0 where
  pub fewer : length taps ≤ m
  pub adds : (f : ℕ → ℕ) → tap_sum taps f ≡ fold ◌+◌ 0 m (λ t. turned k v below t * f (offset_of k.columns t))

-- the sums of the four channels of the pixels from the index i on
pub record Summed (taps : List Tap) (lines : List ℕ) (i : ℕ) (s : Sums) : Type 0 where
  pub r : s.r ≡ tap_sum taps (λ o. get_or lines (o + i) 0)
  pub g : s.g ≡ tap_sum taps (λ o. get_or lines (o + i + 1) 0)
  pub b : s.b ≡ tap_sum taps (λ o. get_or lines (o + i + 2) 0)
  pub a : s.a ≡ tap_sum taps (λ o. get_or lines (o + i + 3) 0)
  pub small_r : s.r ≤ length taps * 4278190080
  pub small_g : s.g ≤ length taps * 4278190080
  pub small_b : s.b ≤ length taps * 4278190080
  pub small_a : s.a ≤ length taps * 4278190080

-- q is s with one tap more
pub record Added (s : Sums) (w : ℕ) (lines : List ℕ) (o : ℕ) (q : Sums) : Type 0 where
  pub r : q.r ≡ s.r + w * get_or lines o 0
  pub g : q.g ≡ s.g + w * get_or lines (o + 1) 0
  pub b : q.b ≡ s.b + w * get_or lines (o + 2) 0
  pub a : q.a ≡ s.a + w * get_or lines (o + 3) 0
  pub small_r : q.r ≤ s.r + 4278190080
  pub small_g : q.g ≤ s.g + 4278190080
  pub small_b : q.b ≤ s.b + 4278190080
  pub small_a : q.a ≤ s.a + 4278190080

-- as much as 25 taps can add up to
pub record SmallSums (s : Sums) : Type 0 where
  pub r : s.r ≤ 106954752000
  pub g : s.g ≤ 106954752000
  pub b : s.b ≤ 106954752000
  pub a : s.a ≤ 106954752000

-- d · (bias · a + 1 / 2), in units of the sum: rounded down where it is above zero, and rounded up what is taken away where it is below
abbrev pub lift_over : Fixed → ℕ → ℕ → ℕ
lift_over bias d a = d * (bias.above * a + 32768 - bias.below * a) / 65536

abbrev pub lift_under : Fixed → ℕ → ℕ → ℕ
lift_under bias d a = (d * (bias.below * a - (bias.above * a + 32768)) + 65535) / 65536

-- from the two sums of a channel, and the own alpha
abbrev pub planned_byte : Plan → ℕ → ℕ → ℕ → ℕ
planned_byte p s t a = min ((s + lift_over p.bias p.divisor.size a - (t + lift_under p.bias p.divisor.size a)) / p.divisor.size) 255

abbrev pub divided_pixel : Plan → Sums → Sums → ℕ → Pixel
divided_pixel p s t a = pixel (planned_byte p s.r t.r a) (planned_byte p s.g t.g a) (planned_byte p s.b t.b a) (planned_byte p s.a t.a a)

module _ (p : Plan) (lines : List ℕ) (i : ℕ) where
  -- the channel whose bytes are given at each offset
  unfoldable pub planned_lane : (ℕ → ℕ) → ℕ
  planned_lane f = planned_byte p (tap_sum p.up.now f) (tap_sum p.down.now f) (get_or lines (p.own + i) 0)

  abbrev pub planned_pixel : Pixel
  planned_pixel = pixel (planned_lane (λ o. get_or lines (o + i) 0)) (planned_lane (λ o. get_or lines (o + i + 1) 0))
      (planned_lane (λ o. get_or lines (o + i + 2) 0)) (planned_lane (λ o. get_or lines (o + i + 3) 0))

abbrev pub with_alpha : ℕ → Pixel → Pixel
with_alpha a p = pixel p.r p.g p.b a

-- what the bytes of a pixel with the alpha a are lowered to
abbrev pub lowest : ℕ → Pixel
lowest a = pixel a a a a
