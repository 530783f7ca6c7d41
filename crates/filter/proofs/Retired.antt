-- Refusal 12 was never given: a box holds at most 61 bytes, a sum of at most 15,555. Assumes nothing.
use Prim.Native.Nat.{ℕ, ◌+◌, ◌*◌, ◌/◌, ◌%◌, max, ◌≤◌, ◌<◌}
use mathlib.Core.Path.{◌≡◌, refl, ◌∙◌}
use mathlib.Core.Bool.{Bool, true, false, cond}
use native.Mathlib.Nat.{max-le}
use native.Mathlib.Decide.{ℕ_discrete, dec_lt}
use native.Mathlib.Omega.{arith}
use lib.Dec.{ltb, eqb}
use borrow.Author.Tests.{eq-eqb, ne_eqb, eqb-true, eqb-false, lt-ltb, le-ltb, ltb-true, ltb-false, le-leb}
use Rattle.number.specs.declared.Number as N
use Rattle.number.specs.declared.Range.TheVariants.{Deviation}
use Rattle.window.specs.Window.{box_size, passes, passes_of}
use Rattle.filter.specs.declared.Kind.{Kind}
use Rattle.filter.specs.declared.Step.{Step}
use Rattle.std.specs.Prelude.{Ok, Err}
use Rattle.filter.specs.declared.Refusal.TheVariants.{Canvas, Source, StepCount, Workspace, Scratch, Rectangle, Input, TableSize, Kernel, NotFinite, Negative, OutOfRange, NotWhole, OutsideCanvas, AboveAlpha}
use Rattle.filter.specs.Steps.{number_at}
use Rattle.filter.specs.Answers.{Answer, number_of}
use Rattle.filter.specs.Checks.{step_answer}
use Rattle.filter.specs.Retired.{widest, boxes_of, boxes, boxes_worked, widest_of, most_bytes, most_sum, widest_by, boxes?, step_answer_with}
use Rattle.filter.proofs.UnitsInRange.{fixed-in-range}

-- the boxes are those of the passes that are worked
pub passes-are : (n d : ℕ) (f : ℕ → ℕ) → passes n d f ≡ boxes_worked n (boxes d) f
unfolding passes_of boxes_of boxes_worked
passes-are n d f = go (ltb d 2) (eqb (d % 2) 1)
  where
    go : (small odd : Bool) → passes_of n small odd (d / 2) f ≡ boxes_worked n (boxes_of small odd (d / 2)) f
    go true odd = refl
    go false true = refl
    go false false = refl

-- d by its half: odd, and even
odd_is : (d : ℕ) → 2 ≤ d → d % 2 ≡ 1 → widest d ≡ d / 2 + d / 2 + 1
unfolding widest
odd_is d l o = rw (le-ltb d 2 l, eq-eqb (d % 2) 1 o) (omega arith)

even_is : (d : ℕ) → 2 ≤ d → (d % 2 ≡ 1 → ⊥) → widest d ≡ d / 2 + d / 2 + 1
unfolding widest
even_is d l o = rw (le-ltb d 2 l, ne_eqb (d % 2) 1 o) (omega (arith, o))

none_is : (d : ℕ) → d < 2 → widest d ≡ 0
unfolding widest
none_is d l = rw (lt-ltb d 2 l) refl

-- the widest of those is what the test called the widest
pub widest-is : (d : ℕ) → widest d ≡ widest_of (boxes d)
unfolding boxes_of widest_of
widest-is d = go (ltb d 2) (eqb (d % 2) 1) refl refl
  where
    go : (small odd : Bool) → ltb d 2 ≡ small → eqb (d % 2) 1 ≡ odd → widest d ≡ widest_of (boxes_of small odd (d / 2))
    go true odd l o = none_is d (ltb-true d 2 l)
    go false true l o = odd_is d (ltb-false d 2 l) (eqb-true (d % 2) 1 o) ∙ omega arith
    go false false l o = even_is d (ltb-false d 2 l) (eqb-false (d % 2) 1 o) ∙ omega (arith, ltb-false d 2 l)

-- "A box holds at most 61 bytes"
pub widest-at-most : (d : ℕ) → d ≤ 60 → widest d ≤ 61
widest-at-most d h = elim (dec_lt d 2) [ yes l ↦ omega (arith, none_is d l) | no l ↦ elim (ℕ_discrete (d % 2) 1) [ yes o ↦ omega (arith, odd_is d (omega arith) o) | no o ↦ omega (arith, even_is d (omega arith) o) ] ]

size-at-most : (u : ℕ) → u ≤ 2097152 → box_size u ≤ 60
size-at-most u h = omega arith

-- of every number, accepted or not
pub box-at-most : (x : N.Number) → widest_by x ≤ most_bytes
box-at-most x = widest-at-most _ (size-at-most _ (fixed-in-range Deviation x).above_le)

-- "a sum of at most 15,555"
pub sum-at-most : (x : N.Number) → 255 * widest_by x ≤ most_sum
sum-at-most x = omega (arith, box-at-most x)

-- so the test holds of every step, whatever its kind and its numbers
pub never-too-wide : (s : Step) → boxes? s ≡ true
never-too-wide s = le-leb _ 65535 (go (widest_by (number_at s 0)) (widest_by (number_at s 1)) (box-at-most (number_at s 0)) (box-at-most (number_at s 1)))
  where
    go : (a b : ℕ) → a ≤ 61 → b ≤ 61 → 255 * max a b ≤ 65535
    go a b p q = let m : max a b ≤ 61 = max-le p q in omega arith

-- and the answer is the same without it: of the old order none was ever the answer that stood there
pub same-without-12 : (asked : Kind → Bool) (twelve : Answer) (w h n : ℕ) (s : Step) → step_answer_with asked twelve w h n s ≡ step_answer w h n s
unfolding step_answer_with step_answer
same-without-12 asked twelve w h n s = rw (holds (asked s.kind))
  where
    holds : (a : Bool) → cond a (boxes? s) true ≡ true
    holds true = never-too-wide s
    holds false = refl

-- the number is given no more
pub never-12 : (a : Answer) → number_of a ≡ 12 → ⊥
never-12 (Ok u) e = omega arith
never-12 (Err Canvas) e = omega arith
never-12 (Err Source) e = omega arith
never-12 (Err StepCount) e = omega arith
never-12 (Err Workspace) e = omega arith
never-12 (Err Scratch) e = omega arith
never-12 (Err Rectangle) e = omega arith
never-12 (Err (Input n)) e = omega arith
never-12 (Err (TableSize n)) e = omega arith
never-12 (Err (Kernel n)) e = omega arith
never-12 (Err (NotFinite n)) e = omega arith
never-12 (Err (Negative n)) e = omega arith
never-12 (Err (OutOfRange n)) e = omega arith
never-12 (Err (NotWhole n)) e = omega arith
never-12 (Err (OutsideCanvas n)) e = omega arith
never-12 (Err (AboveAlpha n)) e = omega arith
