-- Rows by the index of their first pixel: what a copy of pixels brings from a picture, and takes to a layer. Assumes nothing.
use mathlib.Core.Path.{◌≡◌, sym, ap, ◌∙◌}
use mathlib.Core.List.{List}
use Prim.Native.Nat.{ℕ, ◌+◌, ◌-◌, ◌*◌, ◌≤◌, ◌<◌}
use native.Mathlib.Nat.{mul_left_comm, zero-mul}
use native.Mathlib.Omega.{arith}
use mathlib.Core.Bool.{true}
use borrow.Author.Tests.{lt-ltb, ltb-true}
use Rattle.pixel.specs.declared.Pixel.{Pixel}
use Rattle.pixel.specs.Bytes.{pixel_at, Painted}
use Rattle.kernel_row.specs.Row.{alpha_only}
use Rattle.pixel.proofs.PaintedRows.{painted-as}
use Rattle.filter.specs.declared.Input.{Input}
use Rattle.filter.specs.declared.Input.TheVariants.{Source, SourceAlpha, Layer}
use Rattle.filter.specs.Checks.{allowed?}
use Rattle.filter.specs.Bytes.{size, read}
use Rattle.buffers.specs.Buffers.{stands, row_start, row_at, Loaded}
use Rattle.filter.proofs.ReadPictures.{read-pixel}

pub layer-bytes : (w h n : ℕ) → n * size w h ≡ 4 * (n * (w * h))
layer-bytes w h n = mul_left_comm n 4 (w * h)

pub row-bytes : (w h n y p : ℕ) → p ≡ row_start w h n y → 4 * p ≡ row_at w h n y
row-bytes w h n y p e = omega (arith, e, layer-bytes w h n)

-- a picture's row by places
pub read-place : (w h k : ℕ) (d : List ℕ) (x y : ℕ) → x < w → y < h → pixel_at d (4 * (row_start w h k y + x)) ≡ read w h d (k * size w h) x y
read-place w h k d x y lx ly =
    let e : 4 * (row_start w h k y + x) ≡ k * size w h + 4 * (y * w + x) = omega (arith, layer-bytes w h k) in
    ap (pixel_at d) e ∙ sym (read-pixel w h d (k * size w h) x y lx ly)

-- pixels counted from p on
pub painted-move : (f g : ℕ → Pixel) (p o from to : ℕ) (d d' : List ℕ) → 4 * p ≡ o → ((x : ℕ) → from ≤ x → x < to → f (p + x) ≡ g x) → Painted f 0 (p + from) (p + to) d d' → Painted g o from to d d'
painted-move f g p o from to d d' e same P = record {
  inside = λ x l h.
      let q : o + 4 * x ≡ 0 + 4 * (p + x) = omega arith in
      ap (pixel_at d') q ∙ P.inside (p + x) (omega arith) (omega arith) ∙ same x l h;
  before = λ i h. P.before i (omega arith);
  after = λ i h. P.after i (omega arith);
  long = P.long;
}

module _ (w h : ℕ) (src ws : List ℕ) (y from to : ℕ) (row row' : List ℕ) (high : y < h) (wide : to ≤ w) where
  pub loaded-source : (at : ℕ) (i : Input) → i ≡ Source → at ≡ row_start w h 0 y + from
      → Painted (λ x. pixel_at src (4 * (at + (x - 0)))) 0 0 (to - from) row row' → Loaded (stands w h src ws i) y from to row row'
  unfolding stands
  loaded-source at i ei ea P = rw ei (painted-as _ _ 0 0 (to - from) row row' (λ j l m.
      let e : at + (j - 0) ≡ row_start w h 0 y + (from + j) = omega arith in
      ap (λ (k : ℕ). pixel_at src (4 * k)) e ∙ read-place w h 0 src (from + j) y (omega arith) high ∙ ap (λ (o : ℕ). read w h src o (from + j) y) (zero-mul (size w h))) P)

  pub loaded-alpha : (at : ℕ) (i : Input) → i ≡ SourceAlpha → at ≡ row_start w h 0 y + from
      → Painted (λ j. alpha_only (pixel_at src (4 * (at + j)))) 0 0 (to - from) row row' → Loaded (stands w h src ws i) y from to row row'
  unfolding stands
  loaded-alpha at i ei ea P = rw ei (painted-as _ _ 0 0 (to - from) row row' (λ j l m.
      let e : at + j ≡ row_start w h 0 y + (from + j) = omega arith in
      ap (λ (k : ℕ). alpha_only (pixel_at src (4 * k))) e ∙ ap alpha_only (read-place w h 0 src (from + j) y (omega arith) high ∙ ap (λ (o : ℕ). read w h src o (from + j) y) (zero-mul (size w h)))) P)

  pub loaded-layer : (k at : ℕ) (i : Input) → i ≡ Layer k → at ≡ row_start w h k y + from
      → Painted (λ x. pixel_at ws (4 * (at + (x - 0)))) 0 0 (to - from) row row' → Loaded (stands w h src ws i) y from to row row'
  unfolding stands
  loaded-layer k at i ei ea P = rw ei (painted-as _ _ 0 0 (to - from) row row' (λ j l m.
      let e : at + (j - 0) ≡ row_start w h k y + (from + j) = omega arith in
      ap (λ (q : ℕ). pixel_at ws (4 * q)) e ∙ read-place w h k ws (from + j) y (omega arith) high) P)

pub allowed-more : (n m : ℕ) (i : Input) → n ≤ m → allowed? n i ≡ true → allowed? m i ≡ true
allowed-more n m Source l e = e
allowed-more n m SourceAlpha l e = e
allowed-more n m (Layer k) l e = lt-ltb k m (omega (arith, ltb-true k n e))
