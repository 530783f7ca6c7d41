-- A small whole kernel: sums that count in 16 bits come to the bytes of the definition. Assumes nothing.
use Prim.Native.Nat.{ℕ, ◌+◌, ◌-◌, ◌*◌, ◌/◌, ◌%◌, ◌≤◌, ◌<◌, min}
use mathlib.Core.Path.{◌≡◌, sym, ◌∙◌, ap, ap₂}
use mathlib.Core.Bool.{Bool, true, false, cond}
use mathlib.Core.List.{List}
use native.Mathlib.Nat.{add-mul, mul_assoc, mul_comm, mul-le-mul_left, zero-div, div-add-mod', le_trans}
use native.Mathlib.Omega.{arith}
use lib.IntN.{ℤ, pos}
use lib.ListN.{get_or}
use Rattle.number.specs.Number.{value}
use Rattle.number.specs.declared.Fixed.{Fixed}
use Rattle.pixel.specs.declared.Convolution.{Convolution}
use Rattle.pixel.specs.Convolve.{divisor_of, bias_of, quotient}
use Rattle.pixel.proofs.SignedSums.{Diff}
use Rattle.kernel_lines.specs.Lines.{line_bytes, line_byte}
use Rattle.kernel_lines.specs.Convolved.{value_at, lane_sum, lane_byte, own_alpha}
use Rattle.kernel_taps.specs.declared.finish.Finish.{Finish}
use Rattle.kernel_taps.specs.Lanes.{row_total, total, FinishOf, finished}
use Rattle.kernel_taps.specs.Taps.{nothing, turned, exchanged, Scaled, Tap, TapsOf, Fits}
use Rattle.kernel_taps.proofs.DoubleSums.{nest, nest-same, nest-plus, nest-times, nest-most, nest-pad, nest-flat}
use Rattle.kernel_taps.proofs.SignedQuotients.{min-div, scaled-quotient}
use Rattle.kernel_taps.proofs.TurnedLanes.{turned-row, turned-column, lane-diff}

-- nothing has no units
none_above : (negative : Bool) (unit : ℕ) (u : Fixed) → u ≡ nothing → (exchanged negative u).above / unit ≡ 0
none_above true unit u e = rw e (zero-div unit)
none_above false unit u e = rw e (zero-div unit)

none_below : (negative : Bool) (unit : ℕ) (u : Fixed) → u ≡ nothing → (exchanged negative u).below / unit ≡ 0
none_below true unit u e = rw e (zero-div unit)
none_below false unit u e = rw e (zero-div unit)

none_both : (negative : Bool) (unit : ℕ) (u : Fixed) → u ≡ nothing → (exchanged negative u).above / unit + (exchanged negative u).below / unit ≡ 0
none_both negative unit u e = omega (arith, none_above negative unit u e, none_below negative unit u e)

-- a whole multiple of the unit, times a byte
in-units : (unit x p : ℕ) → x % unit ≡ 0 → x * p ≡ unit * (x / unit * p)
in-units unit x p e =
    let whole : x ≡ unit * (x / unit) = omega (arith, div-add-mod' x unit, mul_comm unit (x / unit)) in
    ap (λ (y : ℕ). y * p) whole ∙ mul_assoc unit (x / unit) p

-- a weight that counts in 16 bits, times a byte
wrapped-product : (w a b p : ℕ) → (w + b) % 65536 ≡ a → w * p + b * p ≡ a * p + 65536 * ((w + b) / 65536 * p)
wrapped-product w a b p e =
    let s : w + b ≡ a + 65536 * ((w + b) / 65536) = omega arith in
    sym (add-mul w b p)
    ∙ ap (λ (y : ℕ). y * p) s
    ∙ add-mul a (65536 * ((w + b) / 65536)) p
    ∙ ap (λ (y : ℕ). a * p + y) (mul_assoc 65536 ((w + b) / 65536) p)

byte-product : (a p : ℕ) → p < 256 → a * p ≤ 255 * a
byte-product a p l = let h : p ≤ 255 = omega arith in omega (arith, mul-le-mul_left a h, mul_comm a 255)

-- what counted in 16 bits is there again once the lift is taken off
wrapped-finish : (t high low q up down half : ℕ) → t + low ≡ high + 65536 * q → high ≤ 255 * up → low ≤ 255 * down → 255 * (up + down) + half ≤ 65535
    → (t + (255 * down + half)) % 65536 - 255 * down ≡ high + half - low
wrapped-finish t high low q up down half e a b l =
    let r : ℕ = high + (255 * down - low) + half in
    let is : t + (255 * down + half) ≡ r + 65536 * q = omega arith in
    let rest : (t + (255 * down + half)) % 65536 ≡ r = rw is (small r q (omega arith)) in
    omega (arith, rest)
  where
    small : (r q : ℕ) → r < 65536 → (r + 65536 * q) % 65536 ≡ r
    small r q h = omega arith

module _ (k : Convolution) (v : List Fixed) (negative : Bool) (unit : ℕ) (weights : List ℕ) (lift most : ℕ) (T : TapsOf k v negative unit weights lift most)
    (n : ℕ) (few : n ≤ 5) (lc : k.columns ≤ n) (lr : k.rows ≤ n) where
  abbrev tap : ℕ → ℕ → Fixed
  tap i j = exchanged negative (turned k v i j)

  abbrev up : ℕ → ℕ → ℕ
  up i j = (tap i j).above / unit

  abbrev down : ℕ → ℕ → ℕ
  down i j = (tap i j).below / unit

  is-tap : (i j : ℕ) → i < n → j < n → Tap unit (get_or weights (5 * i + j) 0) (tap i j)
  is-tap i j a b =
      let h : 5 * i + j < 25 = omega arith in
      let row : (5 * i + j) / 5 ≡ i = omega arith in
      let column : (5 * i + j) % 5 ≡ j = omega arith in
      rw (row, column) at (T.each (5 * i + j) h)

  lift-is : lift ≡ nest n down
  lift-is =
      T.lifted
      ∙ nest-flat down
      ∙ nest-pad n 5 down few
      (λ i j a. none_below negative unit (turned k v i j) (turned-row k v i j (le_trans lr a)))
      (λ i j a. none_below negative unit (turned k v i j) (turned-column k v i j (le_trans lc a)))

  most-is : most ≡ nest n up + nest n down
  most-is =
      T.all
      ∙ nest-flat (λ i j. up i j + down i j)
      ∙ nest-pad n 5 (λ i j. up i j + down i j) few
      (λ i j a. none_both negative unit (turned k v i j) (turned-row k v i j (le_trans lr a)))
      (λ i j a. none_both negative unit (turned k v i j) (turned-column k v i j (le_trans lc a)))
      ∙ nest-plus n up down

  module _ (lines : List ℕ) (b : ℕ) (F : Fits lines) where
    abbrev byte : ℕ → ℕ → ℕ
    byte i j = line_byte lines i (b + 4 * j)

    total-is : total n weights lines b ≡ nest n (λ i j. get_or weights (5 * i + j) 0 * byte i j)
    unfolding total row_total
    total-is = nest-same n (λ i j. get_or weights (5 * i + j) 0 * get_or lines (b + i * line_bytes + 4 * j) 0) (λ i j. get_or weights (5 * i + j) 0 * byte i j)
        (λ i j l m. ap (λ (x : ℕ). get_or weights (5 * i + j) 0 * get_or lines x 0) (omega arith))

    wrapped-total : total n weights lines b + nest n (λ i j. down i j * byte i j)
        ≡ nest n (λ i j. up i j * byte i j) + 65536 * nest n (λ i j. (get_or weights (5 * i + j) 0 + down i j) / 65536 * byte i j)
    wrapped-total =
        ap (λ (x : ℕ). x + nest n (λ i j. down i j * byte i j)) total-is
        ∙ sym (nest-plus n (λ i j. get_or weights (5 * i + j) 0 * byte i j) (λ i j. down i j * byte i j))
        ∙ nest-same n (λ i j. get_or weights (5 * i + j) 0 * byte i j + down i j * byte i j)
        (λ i j. up i j * byte i j + 65536 * ((get_or weights (5 * i + j) 0 + down i j) / 65536 * byte i j))
        (λ i j l m. wrapped-product (get_or weights (5 * i + j) 0) (up i j) (down i j) (byte i j) (is-tap i j l m).wraps)
        ∙ nest-plus n (λ i j. up i j * byte i j) (λ i j. 65536 * ((get_or weights (5 * i + j) 0 + down i j) / 65536 * byte i j))
        ∙ ap (λ (x : ℕ). nest n (λ i j. up i j * byte i j) + x)
        (nest-times n 65536 (λ i j. (get_or weights (5 * i + j) 0 + down i j) / 65536 * byte i j))

    bounded : (f : ℕ → ℕ → ℕ) → nest n (λ i j. f i j * byte i j) ≤ 255 * nest n f
    bounded f = omega (
      arith,
      nest-most n (λ i j. f i j * byte i j) (λ i j. 255 * f i j) (λ i j l m. byte-product (f i j) (byte i j) (F (i * line_bytes + (b + 4 * j)))),
      nest-times n 255 f,
    )

    -- the signed sum of the definition, in units
    above-units : nest n (λ i j. (tap i j).above * byte i j) ≡ unit * nest n (λ i j. up i j * byte i j)
    above-units =
        nest-same n (λ i j. (tap i j).above * byte i j) (λ i j. unit * (up i j * byte i j))
        (λ i j l m. in-units unit (tap i j).above (byte i j) (is-tap i j l m).whole.above)
        ∙ nest-times n unit (λ i j. up i j * byte i j)

    below-units : nest n (λ i j. (tap i j).below * byte i j) ≡ unit * nest n (λ i j. down i j * byte i j)
    below-units =
        nest-same n (λ i j. (tap i j).below * byte i j) (λ i j. unit * (down i j * byte i j))
        (λ i j l m. in-units unit (tap i j).below (byte i j) (is-tap i j l m).whole.below)
        ∙ nest-times n unit (λ i j. down i j * byte i j)

    signed_units : (t : Bool) (x y : ℕ) → nest n (λ i j. (exchanged t (turned k v i j)).above * byte i j) ≡ x
        → nest n (λ i j. (exchanged t (turned k v i j)).below * byte i j) ≡ y → Diff (lane_sum k v lines b) (cond t y x) (cond t x y)
    signed_units true x y ex ey = rw (← ex, ← ey) (lane-diff k v n lines b lc lr)
    signed_units false x y ex ey = rw (← ex, ← ey) (lane-diff k v n lines b lc lr)

    pub finished-is : (f : Finish) (size : ℕ) (d : Fixed) → FinishOf lift size f → 0 < unit → 0 < size
        → value d ≡ divisor_of k (value_at v) → Scaled d negative unit size → bias_of k (value_at v) ≡ pos 0 → 255 * most + size / 2 ≤ 65535
        → finished f (total n weights lines b) ≡ lane_byte k v lines b
    unfolding finished lane_byte
    finished-is f size d O some sized e s bias fits =
        let high : ℕ = nest n (λ i j. up i j * byte i j) in
        let low : ℕ = nest n (λ i j. down i j * byte i j) in
        let x : (total n weights lines b + f.base) % 65536 - f.lift ≡ high + size / 2 - low =
        ap₂ (λ (y z : ℕ). (total n weights lines b + y) % 65536 - z)
        (O.base ∙ ap (λ (y : ℕ). 255 * y + size / 2) lift-is)
        (O.lift ∙ ap (λ (y : ℕ). 255 * y) lift-is)
        ∙ wrapped-finish (total n weights lines b) high low _ (nest n up) (nest n down) (size / 2) wrapped-total (bounded up) (bounded down)
        (rw most-is at fits) in
        ap₂ (λ (q m : ℕ). min q m / f.size) x (f.most_is ∙ ap (λ (m : ℕ). 255 * m) O.size)
        ∙ ap (λ (m : ℕ). min (high + size / 2 - low) (255 * size) / m) O.size
        ∙ min-div (high + size / 2 - low) size sized
        ∙ sym (scaled-quotient unit size high low (own_alpha k lines (b / 4)) some (lane_sum k v lines b) (divisor_of k (value_at v)) d negative sized e s
        (signed_units negative _ _ above-units below-units))
        ∙ ap (λ (z : ℤ). quotient (lane_sum k v lines b) z (own_alpha k lines (b / 4)) (divisor_of k (value_at v))) (sym bias)
