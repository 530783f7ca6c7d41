-- Lines of a picture give its convolution. Assumes nothing.
use Prim.Native.Nat.{ℕ, ◌+◌, ◌-◌, ◌*◌, ◌/◌, ◌<◌}
use mathlib.Core.Path.{◌≡◌, refl, ap, ap₂, ◌∙◌}
use mathlib.Core.Bool.{Bool, true, false, cond}
use mathlib.Core.List.{List}
use native.Mathlib.Nat.{add-zero}
use native.Mathlib.Omega.{arith}
use lib.IntN.{ℤ, pos, ◌*ℤ◌}
use lib.ListN.{get_or}
use Rattle.number.specs.declared.Fixed.{Fixed}
use Rattle.pixel.specs.declared.Pixel.{Pixel}
use Rattle.pixel.specs.declared.Convolution.{Convolution}
use Rattle.pixel.specs.Alpha.{pixel, clear, straight, lowered}
use Rattle.pixel.specs.Bytes.{pixel_at}
use Rattle.pixel.specs.Convolve.{weight, divisor_of, bias_of, extended, quotient, neighbour, weighed, channel_sum, free, preserved, convolved}
use Rattle.pixel.proofs.Convolved.{sum_same}
use Rattle.pixel.proofs.PaintedRows.{pixel-is}
use Rattle.kernel_lines.specs.Lines.{line_bytes}
use Rattle.kernel_lines.specs.Convolved.{value_at, Convolves, lane_sum, own_alpha, lane_byte, lane_pixel, kept_by, line_pixel, as_read, LinesOf}
use Rattle.kernel_lines.proofs.ExtendedRows.{extended-as, extended-map, extended-own}

as-read-clear : (b : Bool) → as_read b clear ≡ clear
unfolding straight
as-read-clear true = refl
as-read-clear false = refl

as-read-alpha : (b : Bool) (p : Pixel) → (as_read b p).a ≡ p.a
unfolding straight
as-read-alpha true p = refl
as-read-alpha false p = refl

module _ (w h : ℕ) (k : Convolution) (v : List Fixed) (g : ℕ → ℕ → Pixel) (x y : ℕ) (lines : List ℕ)
    (ok : Convolves k v) (held : LinesOf w h k g y lines) (lx : x < w) (ly : y < h) where
  -- the lines hold the neighbours as s reads them
  abbrev Read : (Pixel → Pixel) → Type 0
  Read s = (i j : ℕ) → i < k.rows → j < k.columns → pixel_at lines (i * line_bytes + 4 * (x + j)) ≡ s (neighbour w h k (value_at v) g x y j i)

  neighbours-read : Read (as_read k.preserve)
  unfolding neighbour
  neighbours-read i j li lj =
      let s : Pixel → Pixel = as_read k.preserve in
      let keeps = as-read-clear k.preserve in
      let m : x + j < w + k.columns - 1 = omega arith in
      held.held i (x + j) li m
      ∙ extended-as k.edge h k.row (y + i) _ _ (λ q. extended-map k.edge w k.column (x + j) (λ p. g p q) s keeps)
      ∙ extended-map k.edge h k.row (y + i) (λ q. extended k.edge w k.column (λ p. g p q) (x + j)) s keeps

  -- the result's own place
  own-alpha : own_alpha k lines x ≡ (g x y).a
  own-alpha =
      let b : Bool = k.preserve in
      let m : x + k.column < w + k.columns - 1 = omega (arith, ok.column_inside) in
      let n : k.row * line_bytes + (4 * (x + k.column) + 3) ≡ k.row * line_bytes + 4 * (x + k.column) + 3 = omega arith in
      let own : pixel_at lines (k.row * line_bytes + 4 * (x + k.column)) ≡ as_read b (g x y)
      = held.held k.row (x + k.column) ok.row_inside m
      ∙ extended-own k.edge h k.row y _ ly
      ∙ extended-own k.edge w k.column x (λ p. as_read b (g p y)) lx in
      ap (λ (t : ℕ). get_or lines t 0) n ∙ ap (λ (p : Pixel). p.a) own ∙ as-read-alpha b (g x y)

  -- a channel of the result is worked from byte c of each pixel
  lane-is : (s : Pixel → Pixel) → Read s → (channel : Pixel → ℕ) (c b : ℕ) → c < 4 → b ≡ 4 * x + c
      → ((d : List ℕ) (i : ℕ) → get_or d (i + c) 0 ≡ channel (pixel_at d i))
      → lane_byte k v lines b ≡ channel_sum w h k (value_at v) g x y (λ p. channel (s p))
  unfolding lane_byte lane_sum weighed
  lane-is s read channel c b l at byte =
      let column : b / 4 ≡ x = omega arith in
      ap₂ (λ (z : ℤ) (a : ℕ). quotient z (bias_of k (value_at v)) a (divisor_of k (value_at v)))
      (sum_same k.rows _ _ λ i li. sum_same k.columns _ _ λ j lj.
      let place : i * line_bytes + (b + 4 * j) ≡ i * line_bytes + 4 * (x + j) + c = omega arith in
      ap (λ (n : ℕ). weight k (value_at v) (k.columns - 1 - j) (k.rows - 1 - i) *ℤ pos n)
      (ap (λ (n : ℕ). get_or lines n 0) place ∙ byte lines (i * line_bytes + 4 * (x + j)) ∙ ap channel (read i j li lj)))
      (ap (own_alpha k lines) column ∙ own-alpha)

  -- the four channels, where s reads the neighbours
  abbrev sums : (Pixel → Pixel) → Pixel
  sums s =
      let of : (Pixel → ℕ) → ℕ = λ channel. channel_sum w h k (value_at v) g x y (λ p. channel (s p)) in
      pixel (of (λ p. p.r)) (of (λ p. p.g)) (of (λ p. p.b)) (of (λ p. p.a))

  lanes-are : (s : Pixel → Pixel) → Read s → lane_pixel k v lines x ≡ sums s
  lanes-are s read =
      pixel-is _ _
      (lane-is s read (λ p. p.r) 0 (4 * x) (omega arith) (omega arith) (λ d i. ap (λ (n : ℕ). get_or d n 0) (add-zero i)))
      (lane-is s read (λ p. p.g) 1 (4 * x + 1) (omega arith) refl (λ d i. refl))
      (lane-is s read (λ p. p.b) 2 (4 * x + 2) (omega arith) refl (λ d i. refl))
      (lane-is s read (λ p. p.a) 3 (4 * x + 3) (omega arith) refl (λ d i. refl))

  pub line-is : line_pixel k v lines x ≡ convolved w h k (value_at v) g x y
  unfolding line_pixel convolved straight
  line-is = go k.preserve neighbours-read
    where
      go : (b : Bool) → Read (as_read b)
          → cond b (kept_by (own_alpha k lines x) (lane_pixel k v lines x)) (lowered (lane_pixel k v lines x))
          ≡ cond b (preserved w h k (value_at v) g x y) (free w h k (value_at v) g x y)
      go true read = ap₂ kept_by own-alpha (lanes-are straight read)
      go false read = ap lowered (lanes-are (λ p. p) read)
