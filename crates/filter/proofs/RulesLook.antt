-- How far a rule along a line looks: a window, a box pass, the passes of a blur; and a rule across followed by one down.
-- Assumes nothing.
use Prim.Native.Nat.{ℕ, ◌+◌, ◌-◌, ◌*◌, ◌/◌, ◌%◌, ◌≤◌, ◌<◌}
use mathlib.Core.Path.{◌≡◌, refl, ap}
use mathlib.Core.Bool.{Bool, true, false, cond}
use native.Mathlib.Omega.{arith}
use lib.Dec.{ltb, leb, eqb}
use borrow.Author.Tests.{ltb-false, leb-true, eqb-true}
use Rattle.window.specs.Window as W
use Rattle.window.proofs.BandedPasses.{fold_same}
use Rattle.filter.specs.Picture.{Plane}
use Rattle.filter.specs.Reach.{Sees, span}

-- a rule for the places of a line
abbrev pub Rule : Type 0
Rule = (ℕ → ℕ) → ℕ → ℕ

-- its result at x depends on x - back .. x + ahead
abbrev pub Looks : Rule → ℕ → ℕ → Type 0
Looks F back ahead = (f g : ℕ → ℕ) (x : ℕ) → ((u : ℕ) → Sees (span back ahead) x u → f u ≡ g u) → F f x ≡ F g x

pub looks-wider : {F : Rule} {b a b' a' : ℕ} → b ≤ b' → a ≤ a' → Looks F b a → Looks F b' a'
looks-wider h k l f g x e = l f g x λ u s. e u (record { low = omega arith; high = omega arith })

-- one rule after another: the windows add up
pub looks-then : {F G : Rule} {b a b' a' : ℕ} → Looks F b a → Looks G b' a' → Looks (λ f. G (F f)) (b + b') (a + a')
looks-then {F} l m f g x e = m (F f) (F g) x λ u s. l f g u λ v t. e v (record { low = omega arith; high = omega arith })

-- the window's place t, read from x
behind-same : (back ahead x t : ℕ) (f g : ℕ → ℕ) → t < back + ahead + 1 → ((u : ℕ) → Sees (span back ahead) x u → f u ≡ g u)
    → W.behind back f (x + t) ≡ W.behind back g (x + t)
unfolding W.behind
behind-same back ahead x t f g l h = go (leb back (x + t)) refl
  where
    go : (b : Bool) → leb back (x + t) ≡ b → cond b (f (x + t - back)) 0 ≡ cond b (g (x + t - back)) 0
    go true e = h (x + t - back) (let le : back ≤ x + t = leb-true _ _ e in record { low = omega arith; high = omega arith })
    go false e = refl

-- a window's places put together, whatever the operation
pub over-looks : (op : ℕ → ℕ → ℕ) (e back ahead : ℕ) → Looks (W.over op e back ahead) back ahead
over-looks op e back ahead f g x h = fold_same op e (back + ahead + 1) _ _ λ t l. behind-same back ahead x t f g l h

mean-looks : (back ahead : ℕ) → Looks (W.mean back ahead) back ahead
unfolding W.mean
mean-looks back ahead f g x h = ap (λ (n : ℕ). (n + (back + ahead + 1) / 2) / (back + ahead + 1)) (over-looks ◌+◌ 0 back ahead f g x h)

pub box-looks : (n back ahead : ℕ) → Looks (W.box n back ahead) back ahead
unfolding W.box W.within
box-looks n back ahead f g x h = ap (λ (m : ℕ). cond (ltb x n) m 0) (mean-looks back ahead f g x h)

-- a blur of d reaches its spread to either side
pub passes-looks : (n d : ℕ) → Looks (W.passes n d) (W.spread d) (W.spread d)
unfolding W.passes_of W.spread
passes-looks n d = go (ltb d 2) (eqb (d % 2) 1) refl refl
  where
    three : (b₁ a₁ b₂ a₂ b₃ a₃ s : ℕ) → b₁ + b₂ + b₃ ≤ s → a₁ + a₂ + a₃ ≤ s → Looks (λ f. W.box n b₃ a₃ (W.box n b₂ a₂ (W.box n b₁ a₁ f))) s s
    three b₁ a₁ b₂ a₂ b₃ a₃ s h k = looks-wider h k (looks-then (looks-then (box-looks n b₁ a₁) (box-looks n b₂ a₂)) (box-looks n b₃ a₃))

    go : (small odd : Bool) → ltb d 2 ≡ small → eqb (d % 2) 1 ≡ odd
        → let s : ℕ = cond odd (3 * ((d - 1) / 2)) (3 * (d / 2) - 1) in Looks (W.passes_of n small odd (d / 2)) s s
    go true odd l o = λ f g x e. e x (record { low = omega arith; high = omega arith })
    go false true l o = let m : d % 2 ≡ 1 = eqb-true _ _ o in three (d / 2) (d / 2) (d / 2) (d / 2) (d / 2) (d / 2) _ (omega arith) (omega arith)
    go false false l o = let m : 2 ≤ d = ltb-false _ _ l in three (d / 2) (d / 2 - 1) (d / 2 - 1) (d / 2) (d / 2) (d / 2) _ (omega arith) (omega arith)

-- a rule F across, then a rule G down
abbrev pub both_ways : Rule → Rule → Plane → Plane
both_ways F G p x y = G (λ v. F (λ u. p u v) x) y

pub both-looks : {F G : Rule} {b a b' a' : ℕ} → Looks F b a → Looks G b' a' → (p q : Plane) (x y : ℕ)
    → ((u v : ℕ) → Sees (span b a) x u → Sees (span b' a') y v → p u v ≡ q u v)
    → both_ways F G p x y ≡ both_ways F G q x y
both-looks l m p q x y e = m _ _ y λ v t. l _ _ x λ u s. e u v s t
