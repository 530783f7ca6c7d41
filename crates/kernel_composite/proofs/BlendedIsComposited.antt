-- The byte rows of a composite against `composited`: one law over the five operators. Assumes nothing.
use mathlib.Core.Path.{◌≡◌, sym, ap, ap₂, ◌∙◌}
use mathlib.Core.Bool.{true}
use mathlib.Core.List.{List}
use Prim.Native.Nat.{ℕ, ◌+◌, ◌-◌, ◌*◌, ◌/◌, ◌≤◌, ◌<◌}
use native.Mathlib.Nat.{mul-le-mul, mul-le-mul_right, add-mul, mul_comm, mul-zero}
use native.Mathlib.Omega.{arith}
use lib.ListN.{get_or}
use Rattle.window.specs.Store.{Filled}
use Rattle.pixel.specs.declared.Operator.{Operator}
use Rattle.pixel.specs.declared.Operator.TheVariants.{Over, In, Out, Atop, Xor}
use Rattle.pixel.specs.Bytes.{pixel_at, Painted, ValidRow}
use Rattle.pixel.specs.Composite.{factor_a, factor_b, composed, composited}
use Rattle.kernel_composite.specs.Factors.{varies_a, varies_b, Factors}
use Rattle.kernel_composite.specs.Code.{alpha_at, weighted, blended, row, Fitting}
use Rattle.kernel_composite.proofs.FactorRows.{by-channel}
use Rattle.pixel.proofs.Premultiplied.{bytes_product}
use Rattle.pixel.proofs.PaintedRows.{pixel-by}

pub valid-byte : (a : List ℕ) (n : ℕ) → ValidRow a n → (i : ℕ) → i < 4 * n → get_or a i 0 ≤ alpha_at a i
valid-byte a n h i l =
    let p = h.valid (i / 4) (omega arith) in
    by-channel (λ j. get_or a j 0 ≤ alpha_at a i) i p.r p.g p.b (omega arith)

-- of valid pixels the weighted sum is at most 255·255
composed-fits : (o : Operator) (u v x y : ℕ) → u ≤ x → v ≤ y → x < 256 → y < 256 → weighted u (factor_a o x y) v (factor_b o x y) ≤ 65025
composed-fits Over u v x y hu hv hx hy = omega (arith, mul-le-mul_right (255 - x) hv, mul-le-mul_right (255 - x) hy)
composed-fits In u v x y hu hv hx hy = omega (arith, bytes_product u y (omega arith) hy)
composed-fits Out u v x y hu hv hx hy = omega (arith, bytes_product u (255 - y) (omega arith) (omega arith))
composed-fits Atop u v x y hu hv hx hy =
    let e : (x + (255 - x)) * y ≡ 255 * y = ap (λ (n : ℕ). n * y) (omega arith) in
    omega (arith, mul-le-mul_right y hu, mul-le-mul_right (255 - x) hv, add-mul x (255 - x) y, mul_comm y (255 - x))
composed-fits Xor u v x y hu hv hx hy =
    let l : v * (255 - x) ≤ y * 255 = mul-le-mul hv (omega arith) in
    let k : u * (255 - y) ≤ 255 * (255 - y) = mul-le-mul_right (255 - y) (omega arith) in
    omega arith

-- factors are bytes
factor_a-small : (o : Operator) (x y : ℕ) → y < 256 → factor_a o x y < 256
factor_a-small Over x y h = omega arith
factor_a-small In x y h = h
factor_a-small Out x y h = omega arith
factor_a-small Atop x y h = h
factor_a-small Xor x y h = omega arith

factor_b-small : (o : Operator) (x y : ℕ) → factor_b o x y < 256
factor_b-small Over x y = omega arith
factor_b-small In x y = omega arith
factor_b-small Out x y = omega arith
factor_b-small Atop x y = omega arith
factor_b-small Xor x y = omega arith

-- F and G are the factors of an operator for each byte
pub record Weights (o : Operator) (a b : List ℕ) (F G : ℕ → ℕ) (n : ℕ) : Type 0 where
  pub of_a : (i : ℕ) → i < 4 * n → F i ≡ factor_a o (alpha_at a i) (alpha_at b i)
  pub of_b : (i : ℕ) → i < 4 * n → G i ≡ factor_b o (alpha_at a i) (alpha_at b i)

-- the rows of factors as weights, and the constants where a factor does not vary
module _ (o : Operator) (a b f g : List ℕ) (n : ℕ) (H : Factors o a b f g n) where
  from-f : varies_a o ≡ true → (i : ℕ) → i < 4 * n → row f i ≡ factor_a o (alpha_at a i) (alpha_at b i)
  from-f v i h =
      let e : i / 2 / 2 ≡ i / 4 = omega arith in
      rw e at (H.of_a v (i / 2) (omega arith))

  from-g : varies_b o ≡ true → (i : ℕ) → i < 4 * n → row g i ≡ factor_b o (alpha_at a i) (alpha_at b i)
  from-g v i h =
      let e : i / 2 / 2 ≡ i / 4 = omega arith in
      rw e at (H.of_b v (i / 2) (omega arith))

  pub weights : varies_a o ≡ true → varies_b o ≡ true → Weights o a b (row f) (row g) n
  weights ha hb = record { of_a = from-f ha; of_b = from-g hb }

  pub weights-a : varies_a o ≡ true → ((x y : ℕ) → factor_b o x y ≡ 0) → Weights o a b (row f) (λ _. 0) n
  weights-a ha z = record { of_a = from-f ha; of_b = λ i h. sym (z _ _) }

  pub weights-b : ((x y : ℕ) → factor_a o x y ≡ 255) → varies_b o ≡ true → Weights o a b (λ _. 255) (row g) n
  weights-b z hb = record { of_a = λ i h. sym (z _ _); of_b = from-g hb }

module _ (o : Operator) (a b : List ℕ) (F G : ℕ → ℕ) (n : ℕ) (H : Weights o a b F G n) where
  pub fitting : ((i : ℕ) → get_or a i 0 < 256) → ((i : ℕ) → get_or b i 0 < 256) → ValidRow a n → ValidRow b n → Fitting a F b G (4 * n)
  fitting ha hb va vb = record {
    small_f = λ i h. rw (H.of_a i h) (factor_a-small o _ _ (hb _));
    small_g = λ i h. rw (H.of_b i h) (factor_b-small o _ _);
    fits = λ i h.
        let l : i < 4 * n = omega arith in
        rw (H.of_a i l, H.of_b i l)
        (composed-fits o (get_or a i 0) (get_or b i 0) (alpha_at a i) (alpha_at b i) (valid-byte a n va i l) (valid-byte b n vb i l) (ha _) (hb _));
  }

  -- byte c of pixel x of the blended rows
  channel : (d d' : List ℕ) → Filled (blended a F b G) 0 (4 * n) d d' → (x c : ℕ) → x < n → c < 4
      → get_or d' (4 * x + c) 0 ≡ composed o (get_or a (4 * x + c) 0) (get_or b (4 * x + c) 0) (get_or a (4 * x + 3) 0) (get_or b (4 * x + 3) 0)
  channel d d' B x c lx lc =
      let i : ℕ = 4 * x + c in
      let l : i < 4 * n = omega arith in
      let q : 4 * (i / 4) + 3 ≡ 4 * x + 3 = omega arith in
      B.inside i (omega arith) (omega arith)
      ∙ ap₂ (λ (s t : ℕ). (weighted (get_or a i 0) s (get_or b i 0) t + 127) / 255) (H.of_a i l) (H.of_b i l)
      ∙ ap (λ (k : ℕ). composed o (get_or a i 0) (get_or b i 0) (get_or a k 0) (get_or b k 0)) q

  pub blended-painted : (d d' : List ℕ) → Filled (blended a F b G) 0 (4 * n) d d' → Painted (λ x. composited o (pixel_at a (4 * x)) (pixel_at b (4 * x))) 0 0 n d d'
  unfolding composited
  blended-painted d d' B = record {
    inside = λ x l h.
        let z : 4 * x + 0 ≡ 4 * x = omega arith in
        let y : 0 + 4 * x ≡ 4 * x = omega arith in
        rw y (pixel-by d' (4 * x) (composited o (pixel_at a (4 * x)) (pixel_at b (4 * x)))
        (rw z at (channel d d' B x 0 h (omega arith)))
        (channel d d' B x 1 h (omega arith))
        (channel d d' B x 2 h (omega arith))
        (channel d d' B x 3 h (omega arith)));
    before = λ i h. absurd (omega arith);
    after = λ i h. B.after i (omega arith);
    long = B.long;
  }

-- where FB is 0, any b will do
pub scaled-blended : (a b : List ℕ) (F : ℕ → ℕ) (m : ℕ) (d d' : List ℕ) → Filled (blended a F a (λ _. 0)) 0 m d d' → Filled (blended a F b (λ _. 0)) 0 m d d'
scaled-blended a b F m d d' B = record {
  inside = λ i l h. B.inside i l h ∙ ap (λ (t : ℕ). (get_or a i 0 * F i + t + 127) / 255) (mul-zero (get_or a i 0) ∙ sym (mul-zero (get_or b i 0)));
  before = B.before;
  after = B.after;
  long = B.long;
}

pub fitting-alone : (a b : List ℕ) (F : ℕ → ℕ) (m : ℕ) → Fitting a F b (λ _. 0) m → Fitting a F a (λ _. 0) m
fitting-alone a b F m H = record {
  small_f = H.small_f;
  small_g = H.small_g;
  fits = λ i h. omega (arith, H.fits i h, mul-zero (get_or a i 0), mul-zero (get_or b i 0));
}
