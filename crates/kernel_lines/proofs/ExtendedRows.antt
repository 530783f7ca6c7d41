-- Rows extended beyond their edges: the place that is read, and what stays the same with the row. Assumes nothing.
use Prim.Native.Nat.{ℕ, ◌+◌, ◌-◌, ◌*◌, ◌%◌, ◌≤◌, ◌<◌, min}
use mathlib.Core.Path.{◌≡◌, refl, sym, ap, ◌∙◌}
use mathlib.Core.Bool.{Bool, true, false, cond}
use mathlib.Core.List.{List}
use native.Mathlib.Nat.{add-mul-mod_self_right, mod-eq_of_lt, mul-le-mul_left, mul-sub}
use native.Mathlib.Omega.{arith}
use borrow.Author.Tests.{le-leb, le-ltb, lt-ltb}
use lib.Dec.{leb}
use Rattle.pixel.specs.declared.Pixel.{Pixel}
use Rattle.pixel.specs.declared.Edge.{Edge}
use Rattle.pixel.specs.declared.Edge.TheVariants.{Duplicate, Wrap, None}
use Rattle.pixel.specs.Alpha.{clear}
use Rattle.pixel.specs.Bytes.{pixel_at, Painted}
use Rattle.pixel.specs.Convolve.{extended}
use Rattle.kernel_lines.specs.Lines.{place_of, pixel_in}

-- behind the row is transparent black
pub pixel-behind : (row : List ℕ) (w p : ℕ) → w ≤ p → pixel_in row w p ≡ clear
pixel-behind row w p l = simp (le-ltb p w l)

-- an extended row is read at a place of the row, or behind it
pub extended-place : (e : Edge) (n t i : ℕ) (f : ℕ → Pixel) → ((p : ℕ) → n ≤ p → f p ≡ clear) → extended e n t f i ≡ f (place_of e n t i)
unfolding extended
extended-place Duplicate n t i f behind = refl
extended-place Wrap n t i f behind = refl
extended-place None n t i f behind = go (leb t i)
  where
    go : (b : Bool) → cond b (f (i - t)) clear ≡ f (cond b (i - t) n)
    go true = refl
    go false = sym (behind n (omega arith))

-- rows that are the same
pub extended-as : (e : Edge) (n t i : ℕ) (f g : ℕ → Pixel) → ((p : ℕ) → f p ≡ g p) → extended e n t f i ≡ extended e n t g i
unfolding extended
extended-as Duplicate n t i f g same = same (min (i - t) (n - 1))
extended-as Wrap n t i f g same = same ((i + t * (n - 1)) % n)
extended-as None n t i f g same = go (leb t i)
  where
    go : (b : Bool) → cond b (f (i - t)) clear ≡ cond b (g (i - t)) clear
    go true = same (i - t)
    go false = refl

-- each pixel changed by a rule that keeps transparent black
pub extended-map : (e : Edge) (n t i : ℕ) (f : ℕ → Pixel) (s : Pixel → Pixel) → s clear ≡ clear → extended e n t (λ p. s (f p)) i ≡ s (extended e n t f i)
unfolding extended
extended-map Duplicate n t i f s keeps = refl
extended-map Wrap n t i f s keeps = refl
extended-map None n t i f s keeps = go (leb t i)
  where
    go : (b : Bool) → cond b (s (f (i - t))) clear ≡ s (cond b (f (i - t)) clear)
    go true = refl
    go false = sym keeps

-- the place t behind a place of the row is that place itself
pub extended-own : (e : Edge) (n t p : ℕ) (f : ℕ → Pixel) → p < n → extended e n t f (p + t) ≡ f p
unfolding extended
extended-own Duplicate n t p f l = ap f (let e : min (p + t - t) (n - 1) ≡ p = omega arith in e)
extended-own Wrap n t p f l =
    let turn : p + t + t * (n - 1) ≡ p + t * n = omega (arith, mul-sub t n 1, mul-le-mul_left t l) in
    ap f (rw turn (add-mul-mod_self_right p t n ∙ mod-eq_of_lt l))
extended-own None n t p f l =
    let e : p + t - t ≡ p = omega arith in
    let m : t ≤ p + t = omega arith in
    simp (le-leb t (p + t) m, e)

-- the row itself, from the place t on, as a copy to the pixels from s + t on has it
pub extended-block : (e : Edge) (w t s x : ℕ) (row : List ℕ) → t ≤ x → x < t + w
    → pixel_at row (4 * (0 + (s + x - (s + t)))) ≡ extended e w t (pixel_in row w) x
extended-block e w t s x row l h =
    let p : ℕ = x - t in
    let m : p < w = omega arith in
    let from : 0 + (s + x - (s + t)) ≡ p = omega arith in
    let to : p + t ≡ x = omega arith in
    let own : pixel_at row (4 * p) ≡ pixel_in row w p = simp (lt-ltb p w m) in
    ap (λ (n : ℕ). pixel_at row (4 * n)) from ∙ own ∙ sym (extended-own e w t p (pixel_in row w) m) ∙ ap (extended e w t (pixel_in row w)) to

-- what is painted from a pixel s on, counted from there
pub painted-from : (f g : ℕ → Pixel) (o s lo hi from to : ℕ) (d d' : List ℕ) → o ≡ 4 * s → lo ≡ s + from → hi ≡ s + to
    → ((x : ℕ) → from ≤ x → x < to → f (s + x) ≡ g x) → Painted f 0 lo hi d d' → Painted g o from to d d'
painted-from f g o s lo hi from to d d' at low high same P = record {
  inside = λ x l h.
      let e : o + 4 * x ≡ 0 + 4 * (s + x) = omega arith in
      rw e (P.inside (s + x) (omega arith) (omega arith) ∙ same x l h);
  before = λ i h. P.before i (omega arith);
  after = λ i h. P.after i (omega arith);
  long = P.long;
}
