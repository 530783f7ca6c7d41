-- The first refusal is the answer, and what an accepted call has passed: each check of the refusal table, and each step's. Assumes nothing.
use Prim.Native.Nat.{ℕ, zero, suc, ◌+◌, ◌≤◌, ◌<◌}
use mathlib.Core.Path.{◌≡◌, refl, sym, ap, ◌∙◌}
use mathlib.Core.Bool.{Bool, true, false, false≢true}
use native.Mathlib.Decide.{dec_lt}
use native.Mathlib.Omega.{arith}
use lib.Dec.{leb}
use Rattle.std.specs.Prelude.{Ok, Err, is_ok, ⊤}
use borrow.Author.Tests.{leb-true}
use Rattle.number.specs.declared.Fault as F
use Rattle.number.specs.declared.Fault.TheVariants.{NotFinite, Negative, OutOfRange, NotWhole}
use Rattle.number.specs.Number.{fault_number}
use Rattle.filter.specs.declared.Refusal.{Refusal}
use Rattle.filter.specs.declared.Refusal.TheVariants as A
use Rattle.filter.specs.declared.Step.{Step}
use Rattle.filter.specs.Answers.{Answer, number_of, accepted?}
use Rattle.filter.specs.Checks.{unless, or_else, first_of, inputs?, tables?, kernel?, number_answer, numbers_answer, divides?, on_canvas?, step_answer}
use Rattle.filter.proofs.Earlier.{both_true}

-- "A call is accepted when its number is 0": no refusal has that number
pub refused : (e : Refusal) → accepted? (Err e) ≡ false
unfolding accepted?
refused A.Canvas = refl
refused A.Source = refl
refused A.StepCount = refl
refused A.Workspace = refl
refused A.Scratch = refl
refused A.Rectangle = refl
refused (A.Input n) = refl
refused (A.TableSize n) = refl
refused (A.Kernel n) = refl
refused (A.NotFinite n) = refl
refused (A.Negative n) = refl
refused (A.OutOfRange n) = refl
refused (A.NotWhole n) = refl
refused (A.OutsideCanvas n) = refl
refused (A.AboveAlpha p) = refl

pub accepted-is : (a : Answer) → is_ok a ≡ accepted? a
unfolding accepted?
accepted-is (Ok u) = refl
accepted-is (Err e) = sym (refused e)

-- a refusal stays the answer, and after none the next answer is it: what `?` does
pub else-err : (e : Refusal) (b : Answer) → or_else (Err e) b ≡ Err e
else-err e b = ap (λ t. unless t (Err e) b) (refused e)

pub else-ok : (u : ⊤) (b : Answer) → or_else (Ok u) b ≡ b
unfolding accepted?
else-ok u b = refl

-- a refusal stays the answer, whatever comes after it
first-kept : (f : ℕ → Answer) (n : ℕ) → accepted? (first_of f n) ≡ false → first_of f (suc n) ≡ first_of f n
unfolding first_of
first-kept f n e = ap (λ t. unless t (first_of f n) (f n)) e

none-refused : (f : ℕ → Answer) (n : ℕ) → ((j : ℕ) → j < n → accepted? (f j) ≡ true) → accepted? (first_of f n) ≡ true
unfolding first_of accepted?
none-refused f zero h = refl
none-refused f (suc n) h = rw (none-refused f n (λ j l. h j (omega arith))) (h n (omega arith))

-- "The first that applies is the answer"
pub first-is : (f : ℕ → Answer) (n i : ℕ) → i < n → accepted? (f i) ≡ false → ((j : ℕ) → j < i → accepted? (f j) ≡ true) → first_of f n ≡ f i
unfolding first_of
first-is f zero i l e h = absurd (omega arith)
first-is f (suc n) i l e h =
    elim (dec_lt i n) [
      | yes m ↦ (let k = first-is f n i m e h in first-kept f n (ap accepted? k ∙ e) ∙ k)
      | no m ↦ (let q : i ≡ n = omega arith in rw (none-refused f n (λ j k. h j (omega (arith, q)))) (ap f (sym q)))
    ]

-- the test held, and so did what comes after
pub unless-accepted : (t : Bool) (a b : Answer) → accepted? a ≡ false → accepted? (unless t a b) ≡ true → (t ≡ true) × (accepted? b ≡ true)
unless-accepted true a b f e = (refl, e)
unless-accepted false a b f e = absurd (false≢true (sym f ∙ e))

pub else-accepted : (a b : Answer) → accepted? (or_else a b) ≡ true → (accepted? a ≡ true) × (accepted? b ≡ true)
else-accepted a b e = go (accepted? a) refl e
  where
    go : (t : Bool) → accepted? a ≡ t → accepted? (unless t a b) ≡ true → (accepted? a ≡ true) × (accepted? b ≡ true)
    go true s e = (s, e)
    go false s e = absurd (false≢true (sym s ∙ e))

pub first-accepted : (f : ℕ → Answer) (n i : ℕ) → accepted? (first_of f n) ≡ true → i < n → accepted? (f i) ≡ true
unfolding first_of
first-accepted f zero i e l = absurd (omega arith)
first-accepted f (suc n) i e l =
    let t = else-accepted (first_of f n) (f n) e in
    elim (dec_lt i n) [ yes m ↦ first-accepted f n i t.0 m | no m ↦ (let q : i ≡ n = omega arith in rw q t.1) ]

-- a number's refusal has the same number by itself and as a step's answer
pub fault-number : (n : ℕ) (f : F.Fault) → number_of (number_answer n (Err f)) ≡ fault_number f
fault-number n NotFinite = refl
fault-number n Negative = refl
fault-number n OutOfRange = refl
fault-number n NotWhole = refl

-- checks 7, 16, 17, 8 to 11, 17 of a divisor and 13, of step n
pub record Passed (w h n : ℕ) (s : Step) : Type 0 where
  pub inputs : inputs? n s ≡ true
  pub tables : tables? s ≡ true
  pub kernel : kernel? s ≡ true
  pub numbers : accepted? (numbers_answer n s) ≡ true
  pub divides : divides? s ≡ true
  pub across : s.region.x + s.region.width ≤ w
  pub down : s.region.y + s.region.height ≤ h

pub step-accepted : (w h n : ℕ) (s : Step) → accepted? (step_answer w h n s) ≡ true → Passed w h n s
unfolding step_answer accepted?
step-accepted w h n s e =
    let seven = unless-accepted (inputs? n s) (Err (A.Input n)) _ refl e in
    let sixteen = unless-accepted (tables? s) (Err (A.TableSize n)) _ refl seven.1 in
    let seventeen = unless-accepted (kernel? s) (Err (A.Kernel n)) _ refl sixteen.1 in
    let eleven = else-accepted (numbers_answer n s) _ seventeen.1 in
    let divided = unless-accepted (divides? s) (Err (A.Kernel n)) _ refl eleven.1 in
    let thirteen = both_true (leb (s.region.x + s.region.width) w) _ (unless-accepted (on_canvas? w h s.region) (Err (A.OutsideCanvas n)) (Ok tt) refl divided.1).0 in
    record {
      inputs = seven.0;
      tables = sixteen.0;
      kernel = seventeen.0;
      numbers = eleven.0;
      divides = divided.0;
      across = leb-true _ _ thirteen.0;
      down = leb-true _ _ thirteen.1;
    }
