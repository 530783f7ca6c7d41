-- Refusal 12, retired: "255 times a blur's widest box is above 65,535". The test as it was, so that it can be said that it never failed. Assumes nothing.
use Rattle.std.specs.Prelude.{ℕ, ◌+◌, ◌-◌, ◌*◌, ◌/◌, ◌%◌, max, Bool, true, false, cond, List, [], ◌∷◌, ltb, leb, eqb, Ok, Err}
use Rattle.number.specs.declared.Number as N
use Rattle.number.specs.declared.Range.TheVariants.{Deviation}
use Rattle.number.specs.Number.{judged, fixed_of}
use Rattle.window.specs.Window.{box}
use Rattle.filter.specs.declared.Kind.{Kind}
use Rattle.filter.specs.declared.Step.{Step}
use Rattle.filter.specs.declared.Refusal.TheVariants as A
use Rattle.filter.specs.Answers.{Answer}
use Rattle.filter.specs.Reach.{Axis, span}
use Rattle.filter.specs.Steps.{number_at, size_of}
use Rattle.filter.specs.Checks.{unless, or_else, inputs?, tables?, kernel?, numbers_answer, divides?, on_canvas?}

-- the widest box of a blur of d: none for d of 0 or 1, d + 1 for even d
unfoldable pub widest : ℕ → ℕ
widest d = cond (ltb d 2) 0 (cond (eqb (d % 2) 1) d (d + 1))

-- the boxes of a blur of d, e being d ÷ 2, in the order they are worked
unfoldable pub boxes_of : Bool → Bool → ℕ → List Axis
boxes_of true odd e = []
boxes_of false true e = span e e ∷ span e e ∷ span e e ∷ []
boxes_of false false e = span e (e - 1) ∷ span (e - 1) e ∷ span e e ∷ []

abbrev pub boxes : ℕ → List Axis
boxes d = boxes_of (ltb d 2) (eqb (d % 2) 1) (d / 2)

-- boxes worked one after another along a line of n places
unfoldable pub boxes_worked : ℕ → List Axis → (ℕ → ℕ) → ℕ → ℕ
boxes_worked n [] f = f
boxes_worked n (b ∷ bs) f = boxes_worked n bs (box n b.back b.ahead f)

-- the places of the widest of some boxes
unfoldable pub widest_of : List Axis → ℕ
widest_of [] = 0
widest_of (b ∷ bs) = max (b.back + b.ahead + 1) (widest_of bs)

-- "A box holds at most 61 bytes, a sum of at most 15,555."
abbrev pub most_bytes : ℕ
most_bytes = 61

abbrev pub most_sum : ℕ
most_sum = 15555

-- the widest box of a blur by the number x
abbrev pub widest_by : N.Number → ℕ
widest_by x = widest (size_of (fixed_of (judged Deviation x)))

abbrev pub boxes? : Step → Bool
boxes? s = leb (255 * max (widest_by (number_at s 0)) (widest_by (number_at s 1))) 65535

-- the order of checking as it was: the test is asked of some kinds, and there is some answer where it fails
unfoldable pub step_answer_with : (Kind → Bool) → Answer → ℕ → ℕ → ℕ → Step → Answer
step_answer_with asked twelve w h n s =
    unless (inputs? n s) (Err (A.Input n))
    (unless (tables? s) (Err (A.TableSize n))
    (unless (kernel? s) (Err (A.Kernel n))
    (or_else (numbers_answer n s)
    (unless (cond (asked s.kind) (boxes? s) true) twelve
    (unless (divides? s) (Err (A.Kernel n))
    (unless (on_canvas? w h s.region) (Err (A.OutsideCanvas n))
    (Ok tt)))))))
