-- Rules along a line that keep the order of two lines, and bytes: windows, box passes, the passes of a blur. Assumes nothing.
use Prim.Native.Nat.{ℕ, zero, suc, ◌+◌, ◌-◌, ◌*◌, ◌/◌, ◌%◌, ◌≤◌, ◌<◌, min, max}
use mathlib.Core.Bool.{Bool, true, false, cond}
use native.Mathlib.Nat.{le_refl, le_trans, le-div_iff_mul-le, div-mul-le_self, div-lt_iff_lt-mul}
use native.Mathlib.Omega.{arith}
use lib.Dec.{ltb, leb, eqb}
use Rattle.window.specs.Window as W
use Rattle.filter.specs.Picture.{Plane}
use Rattle.filter.proofs.RulesLook.{Rule, both_ways}

pub record Monotone (F : Rule) : Type 0 where
  pub order : (f g : ℕ → ℕ) → ((u : ℕ) → f u ≤ g u) → (x : ℕ) → F f x ≤ F g x
  pub bytes : (f : ℕ → ℕ) → ((u : ℕ) → f u < 256) → (x : ℕ) → F f x < 256

pub monotone-then : {F G : Rule} → Monotone F → Monotone G → Monotone (λ f. G (F f))
monotone-then {F} k l = record {
  order = λ f g h. l.order (F f) (F g) (k.order f g h);
  bytes = λ f h. l.bytes (F f) (k.bytes f h);
}

-- an operation that keeps order
abbrev MonotoneOperation : (ℕ → ℕ → ℕ) → Type 0
MonotoneOperation op = (a b c d : ℕ) → a ≤ c → b ≤ d → op a b ≤ op c d

fold-order : (op : ℕ → ℕ → ℕ) → MonotoneOperation op → (e n : ℕ) (f g : ℕ → ℕ) → ((t : ℕ) → f t ≤ g t) → W.fold op e n f ≤ W.fold op e n g
unfolding W.fold
fold-order op m e zero f g h = le_refl e
fold-order op m e (suc n) f g h = m _ _ _ _ (fold-order op m e n f g h) (h n)

fold-bytes : (op : ℕ → ℕ → ℕ) → ((a b : ℕ) → a < 256 → b < 256 → op a b < 256) → (e n : ℕ) → e < 256 → (f : ℕ → ℕ) → ((t : ℕ) → f t < 256)
    → W.fold op e n f < 256
unfolding W.fold
fold-bytes op m e zero l f h = l
fold-bytes op m e (suc n) l f h = m _ _ (fold-bytes op m e n l f h) (h n)

sum-bytes : (n : ℕ) (f : ℕ → ℕ) → ((t : ℕ) → f t < 256) → W.fold ◌+◌ 0 n f ≤ n * 255
unfolding W.fold
sum-bytes zero f h = omega arith
sum-bytes (suc n) f h = omega (arith, sum-bytes n f h, h n)

behind-order : (back : ℕ) (f g : ℕ → ℕ) → ((u : ℕ) → f u ≤ g u) → (i : ℕ) → W.behind back f i ≤ W.behind back g i
unfolding W.behind
behind-order back f g h i = go (leb back i)
  where
    go : (b : Bool) → cond b (f (i - back)) 0 ≤ cond b (g (i - back)) 0
    go true = h (i - back)
    go false = le_refl 0

behind-bytes : (back : ℕ) (f : ℕ → ℕ) → ((u : ℕ) → f u < 256) → (i : ℕ) → W.behind back f i < 256
unfolding W.behind
behind-bytes back f h i = go (leb back i)
  where
    go : (b : Bool) → cond b (f (i - back)) 0 < 256
    go true = h (i - back)
    go false = omega arith

over-order : (op : ℕ → ℕ → ℕ) → MonotoneOperation op → (e back ahead : ℕ) (f g : ℕ → ℕ) → ((u : ℕ) → f u ≤ g u) → (x : ℕ)
    → W.over op e back ahead f x ≤ W.over op e back ahead g x
over-order op m e back ahead f g h x = fold-order op m e (back + ahead + 1) _ _ λ t. behind-order back f g h (x + t)

pub least-monotone : (back ahead : ℕ) → Monotone (W.least back ahead)
least-monotone back ahead = record {
  order = over-order min (λ a b c d h k. omega arith) 255 back ahead;
  bytes = λ f h x. fold-bytes min (λ a b l m. omega arith) 255 (back + ahead + 1) (omega arith) _ λ t. behind-bytes back f h (x + t);
}

pub largest-monotone : (back ahead : ℕ) → Monotone (W.largest back ahead)
largest-monotone back ahead = record {
  order = over-order max (λ a b c d h k. omega arith) 0 back ahead;
  bytes = λ f h x. fold-bytes max (λ a b l m. omega arith) 0 (back + ahead + 1) (omega arith) _ λ t. behind-bytes back f h (x + t);
}

mean-keeps : (back ahead : ℕ) → Monotone (W.mean back ahead)
unfolding W.mean
mean-keeps back ahead = record {
  order = λ f g h x.
      let s : W.over ◌+◌ 0 back ahead f x ≤ W.over ◌+◌ 0 back ahead g x = over-order ◌+◌ (λ a b c d k l. omega arith) 0 back ahead f g h x in
      let n : 0 < back + ahead + 1 = omega arith in
      (le-div_iff_mul-le n).1 (le_trans (div-mul-le_self _ _) (omega arith));
  bytes = λ f h x.
      let s : W.over ◌+◌ 0 back ahead f x ≤ (back + ahead + 1) * 255 = sum-bytes (back + ahead + 1) _ λ t. behind-bytes back f h (x + t) in
      let n : 0 < back + ahead + 1 = omega arith in
      (div-lt_iff_lt-mul n).1 (omega arith);
}

pub box-monotone : (n back ahead : ℕ) → Monotone (W.box n back ahead)
unfolding W.box W.within
box-monotone n back ahead = record {
  order = λ f g h x. lower (ltb x n) ((mean-keeps back ahead).order f g h x);
  bytes = λ f h x. small (ltb x n) ((mean-keeps back ahead).bytes f h x);
}
  where
    lower : (b : Bool) {i j : ℕ} → i ≤ j → cond b i 0 ≤ cond b j 0
    lower true h = h
    lower false h = le_refl 0

    small : (b : Bool) {i : ℕ} → i < 256 → cond b i 0 < 256
    small true h = h
    small false h = omega arith

pub passes-monotone : (n d : ℕ) → Monotone (W.passes n d)
unfolding W.passes_of
passes-monotone n d = go (ltb d 2) (eqb (d % 2) 1) (d / 2)
  where
    three : (b₁ a₁ b₂ a₂ b₃ a₃ : ℕ) → Monotone (λ f. W.box n b₃ a₃ (W.box n b₂ a₂ (W.box n b₁ a₁ f)))
    three b₁ a₁ b₂ a₂ b₃ a₃ = monotone-then (monotone-then (box-monotone n b₁ a₁) (box-monotone n b₂ a₂)) (box-monotone n b₃ a₃)

    go : (small odd : Bool) (e : ℕ) → Monotone (W.passes_of n small odd e)
    go true odd e = record { order = λ f g h. h; bytes = λ f h. h }
    go false true e = three e e e e e e
    go false false e = three e (e - 1) (e - 1) e e e

-- a rule across, then a rule down
module _ {F G : Rule} (k : Monotone F) (l : Monotone G) where
  pub both-order : (p q : Plane) → ((u v : ℕ) → p u v ≤ q u v) → (x y : ℕ) → both_ways F G p x y ≤ both_ways F G q x y
  both-order p q h x y = l.order _ _ (λ v. k.order _ _ (λ u. h u v) x) y

  pub both_bytes : (p : Plane) → ((u v : ℕ) → p u v < 256) → (x y : ℕ) → both_ways F G p x y < 256
  both_bytes p h x y = l.bytes _ (λ v. k.bytes _ (λ u. h u v) x) y
