-- From an accepted answer to what the renderer may go by. Assumes nothing.
use Prim.Native.Nat.{ℕ, zero, suc, ◌+◌, ◌*◌, ◌≤◌, ◌<◌}
use mathlib.Core.Path.{◌≡◌, refl, sym, ap, ◌∙◌}
use mathlib.Core.Bool.{Bool, true, false, cond, not, ◌&&◌, false≢true}
use mathlib.Core.Logic.{inl, inr, ⊎_elim}
use mathlib.Core.List.{List}
use native.Mathlib.Omega.{arith}
use lib.Dec.{ltb, leb, eqb}
use lib.ListN.{get_or}
use lib.IntN.{pos}
use Rattle.std.specs.Prelude.{Some, Ok, Err}
use borrow.Author.Tests.{ltb-true, lt-ltb, leb-true, eqb-true, eq-eqb}
use Rattle.number.specs.declared.Range.TheVariants as R
use Rattle.number.specs.Number.{limit_of, value}
use Rattle.number.specs.declared.Fixed.{Fixed}
use Rattle.pixel.specs.declared.Convolution.{Convolution}
use Rattle.pixel.specs.Convolve.{sum, cells, or_one, divisor_of}
use Rattle.pixel.proofs.SignedSums.{above, below, diff-sub}
use Rattle.pixel.proofs.Convolved.{or-one}
use Rattle.filter.specs.declared.Kind.{Kind}
use Rattle.filter.specs.declared.Kind.TheVariants as K
use Rattle.filter.specs.declared.Pass.{Pass}
use Rattle.filter.specs.declared.Region.{Region}
use Rattle.filter.specs.declared.Step.{Step}
use Rattle.filter.specs.declared.Call.TheVariants as C
use Rattle.filter.specs.declared.Refusal.TheVariants as A
use Rattle.filter.specs.Answers.{accepted?}
use Rattle.filter.specs.Bytes.{size}
use Rattle.filter.specs.Signature.{signature_of, numbers_of, range_at}
use Rattle.filter.specs.Kinds.{no_value, value_at}
use Rattle.filter.specs.Steps.{units_at, shift_of, pixels_of, listed, value_of, values_of, shape_of, shaped, resolved, step_at}
use Rattle.filter.specs.Convolutions.{orders?, target?, convolution?, divisor_place}
use Rattle.filter.specs.Checks.{merges?, inputs?, tables?, kernel?, zero?, divides?, on_canvas?, step_answer, steps_answer, canvas?, count?, sizes_answer, rectangle_answer}
use Rattle.filter.specs.Accepted.{OnCanvas, Canvas, Near, Ranged, most_of, Measured, Divides, Numbered, Bounded, AcceptedStep, AcceptedSizes}
use Rattle.filter.specs.Limits.{longest_side, most_steps, most_numbers}
use Rattle.filter.proofs.UnitsInRange.{units-in-range}
use Rattle.filter.proofs.AllowedCoefficients.{alike-range}
use Rattle.filter.proofs.Earlier.{both_true, inputs-earlier}
use Rattle.filter.proofs.FewNumbers.{orders-allowed, cells-few}
use Rattle.filter.proofs.PassedChecks.{unless-accepted, first-accepted, step-accepted}

listed_at : {A : Type 0} (f : ℕ → A) (d : A) (i n k : ℕ) → k < n → get_or (listed f i n) k d ≡ f (i + k)
listed_at f d i zero k l = absurd (omega arith)
listed_at f d i (suc n) zero l = let e : i + 0 ≡ i = omega arith in rw e
listed_at f d i (suc n) (suc k) l = let e : i + suc k ≡ suc i + k = omega arith in rw e (listed_at f d (suc i) n k (omega arith))

-- units that are not 0
zero-units : (f : Fixed) → not (zero? f) ≡ true → ¬ (value f ≡ pos 0)
zero-units f e z =
    let d = (diff-sub f.above f.below).same in
    let equal : f.above ≡ f.below = omega (arith, d, ap above z, ap below z) in
    false≢true (sym (ap not (eq-eqb f.above f.below equal)) ∙ e)

-- the numbers, by kind; also of a refused number, which counts as 0
module _ (s : Step) where
  above_le : (k : Kind) (i : ℕ) → s.kind ≡ k → (units_at s i).above ≤ 65536 * limit_of (range_at k i)
  above_le k i e = let l = ap (λ (x : Kind). limit_of (range_at x i)) e in omega (arith, (units-in-range s i).above_le)

  below_le : (k : Kind) (i : ℕ) → s.kind ≡ k → (units_at s i).below ≤ 65536 * limit_of (range_at k i)
  below_le k i e = let l = ap (λ (x : Kind). limit_of (range_at x i)) e in omega (arith, (units-in-range s i).below_le)

  near : (i : ℕ) → s.kind ≡ K.Offset → Near (shift_of (units_at s i))
  near i e =
      let l : limit_of (range_at K.Offset i) ≡ limit_of R.Offset = ap limit_of (alike-range 2 R.Offset i) in
      record {
        plus = omega (arith, above_le K.Offset i e);
        minus = omega (arith, below_le K.Offset i e);
        one_way = ⊎_elim (λ z. inl (omega arith)) (λ z. inr (omega arith)) (units-in-range s i).one_sided;
      }

  -- a number of a pass, in pixels
  small : (p : Pass) (i : ℕ) → s.kind ≡ K.Pass p → pixels_of p (units_at s i) ≤ most_of p
  small Pass.Blur i e = let l = ap limit_of (alike-range 2 R.Deviation i) in omega (arith, above_le (K.Pass Pass.Blur) i e)
  small Pass.Erode i e = let l = ap limit_of (alike-range 2 R.Radius i) in omega (arith, above_le (K.Pass Pass.Erode) i e)
  small Pass.Dilate i e = let l = ap limit_of (alike-range 2 R.Radius i) in omega (arith, above_le (K.Pass Pass.Dilate) i e)

  -- the values, whatever the kind
  value-at : (i : ℕ) → i < most_numbers → value_at (values_of s) i ≡ value_of s i
  unfolding values_of
  value-at i l = let e : 0 + i ≡ i = omega arith in listed_at (value_of s) no_value 0 most_numbers i l ∙ ap (value_of s) e

  value-above : (k : Kind) (i : ℕ) → s.kind ≡ k → (value_of s i).above ≤ 65536 * limit_of (range_at k i)
  value-above k i e = go (ltb i (numbers_of s.kind))
    where
      go : (b : Bool) → (cond b (units_at s i) no_value).above ≤ 65536 * limit_of (range_at k i)
      go true = above_le k i e
      go false = omega arith

  value-below : (k : Kind) (i : ℕ) → s.kind ≡ k → (value_of s i).below ≤ 65536 * limit_of (range_at k i)
  value-below k i e = go (ltb i (numbers_of s.kind))
    where
      go : (b : Bool) → (cond b (units_at s i) no_value).below ≤ 65536 * limit_of (range_at k i)
      go true = below_le k i e
      go false = omega arith

  ranged : (k : Kind) → s.kind ≡ k → Ranged (signature_of k).numbers (values_of s)
  ranged k e = record { above = λ i l. rw (value-at i l) (value-above k i e); below = λ i l. rw (value-at i l) (value-below k i e) }

  -- the divisor of a convolution
  given : (k : Convolution) → s.kind ≡ K.Convolve k → orders? k ≡ true → k.divided ≡ true → divides? s ≡ true → ¬ (value (value_at (values_of s) (cells k)) ≡ pos 0)
  given k e o d t z =
      let few : cells k < most_numbers = omega (arith, cells-few k (orders-allowed k o)) in
      let at : divisor_place k ≡ Some (cells k) = rw (d, o) in
      let place : (signature_of s.kind).divisor ≡ Some (cells k) = ap (λ (x : Kind). (signature_of x).divisor) e ∙ at in
      let count : numbers_of s.kind ≡ cells k + 2 = ap numbers_of e ∙ rw (d, o) in
      let inside : ltb (cells k) (numbers_of s.kind) ≡ true = lt-ltb (cells k) (numbers_of s.kind) (omega (arith, count)) in
      let some : not (zero? (units_at s (cells k))) ≡ true = rw place at t in
      let same : value_at (values_of s) (cells k) ≡ units_at s (cells k) = value-at (cells k) few ∙ rw inside in
      zero-units (units_at s (cells k)) some (ap value (sym same) ∙ z)

  divided : (k : Convolution) → s.kind ≡ K.Convolve k → convolution? k ≡ true → divides? s ≡ true → Divides k (values_of s)
  unfolding divisor_of
  divided k e c t = go k.divided refl
    where
      go : (b : Bool) → k.divided ≡ b
          → ¬ (cond b (value (value_at (values_of s) (cells k))) (or_one (sum (cells k) (λ i. value (value_at (values_of s) i)))) ≡ pos 0)
      go true d = given k e (both_true (orders? k) (target? k) c).0 d t
      go false d = or-one (sum (cells k) (λ i. value (value_at (values_of s) i)))

  bounded : merges? (signature_of s.kind) ≡ true → tables? s ≡ true → kernel? s ≡ true → divides? s ≡ true → Bounded (resolved s)
  unfolding shaped Measured Numbered
  bounded g t c d = record { shape = shape s.kind refl g t c; values = values s.kind refl c }
    where
      shape : (k : Kind) → s.kind ≡ k → merges? (signature_of k) ≡ true → (signature_of k).tables ≡ true → (signature_of k).kernel ≡ true → Measured (shape_of k s)
      shape (K.Flood r g b) e m t c = tt
      shape K.Offset e m t c = (near 0 e, near 1 e)
      shape (K.Pass p) e m t c = (small p 0 e, small p 1 e)
      shape (K.Map k) e m t c = t
      shape (K.Pair p) e m t c = tt
      shape (K.Merge n) e m t c = let t = both_true (leb 1 n) (leb n 4) m in (leb-true 1 n t.0, leb-true n 4 t.1)
      shape (K.Convolve k) e m t c = c

      values : (k : Kind) → s.kind ≡ k → (signature_of k).kernel ≡ true → Numbered (shape_of k s) (values_of s)
      values (K.Flood r g b) e c = tt
      values K.Offset e c = tt
      values (K.Pass p) e c = tt
      values (K.Map m) e c = ranged (K.Map m) e
      values (K.Pair p) e c = ranged (K.Pair p) e
      values (K.Merge n) e c = tt
      values (K.Convolve k) e c = (ranged (K.Convolve k) e, divided k e c d)

region-on : (w h : ℕ) (g : Region) → on_canvas? w h g ≡ true → OnCanvas w h g
region-on w h g e =
    let t = both_true (leb (g.x + g.width) w) (leb (g.y + g.height) h) e in
    record { right = leb-true _ _ t.0; bottom = leb-true _ _ t.1 }

-- what `check_step` answers
pub accepted-step : (w h n : ℕ) (s : Step) → accepted? (step_answer w h n s) ≡ true → AcceptedStep w h n s
unfolding inputs?
accepted-step w h n s e =
    let p = step-accepted w h n s e in
    record {
      inputs = inputs-earlier w h n s p.inputs;
      numbers = bounded s (both_true (merges? (signature_of s.kind)) _ p.inputs).0 p.tables p.kernel p.divides;
      region = record { right = p.across; bottom = p.down };
    }

pub accepted-steps : (w h : ℕ) (steps : List Step) (count : ℕ) → accepted? (steps_answer w h steps count) ≡ true → (n : ℕ) → n < count → AcceptedStep w h n (step_at steps n)
accepted-steps w h steps count e n l = accepted-step w h n (step_at steps n) (first-accepted (λ k. step_answer w h k (step_at steps k)) count n e l)

pub canvas-within : (w h : ℕ) → canvas? w h ≡ true → Canvas w h
canvas-within w h e =
    let a = both_true (ltb 0 w) (leb w longest_side && (ltb 0 h && leb h longest_side)) e in
    let b = both_true (leb w longest_side) (ltb 0 h && leb h longest_side) a.1 in
    let c = both_true (ltb 0 h) (leb h longest_side) b.1 in
    record { some_wide = ltb-true 0 w a.0; wide = leb-true w longest_side b.0; some_high = ltb-true 0 h c.0; high = leb-true h longest_side c.1 }

pub count-within : (n : ℕ) → count? n ≡ true → (0 < n) × (n ≤ most_steps)
count-within n e = let t = both_true (ltb 0 n) (leb n most_steps) e in (ltb-true 0 n t.0, leb-true n most_steps t.1)

-- what `check_sizes` answers
pub accepted-sizes : (w h count source workspace scratch : ℕ) → accepted? (sizes_answer w h count source workspace scratch) ≡ true → AcceptedSizes w h count source workspace scratch
unfolding sizes_answer accepted?
accepted-sizes w h count source workspace scratch e =
    let one = unless-accepted (canvas? w h) (Err A.Canvas) _ refl e in
    let two = unless-accepted (eqb source (size w h)) (Err A.Source) _ refl one.1 in
    let three = unless-accepted (count? count) (Err A.StepCount) _ refl two.1 in
    let four = unless-accepted (eqb workspace (count * size w h)) (Err A.Workspace) _ refl three.1 in
    let five = unless-accepted (eqb scratch (2 * size w h)) (Err A.Scratch) (Ok tt) refl four.1 in
    let c = count-within count three.0 in
    record {
      canvas = canvas-within w h one.0;
      source_is = eqb-true _ _ two.0;
      some = c.0;
      few = c.1;
      workspace_is = eqb-true _ _ four.0;
      scratch_is = eqb-true _ _ five.0;
    }

-- what `check_rectangle` answers
pub accepted-rectangle : (w h : ℕ) (g : Region) → accepted? (rectangle_answer w h (C.Redraw g)) ≡ true → OnCanvas w h g
unfolding accepted?
accepted-rectangle w h g e = region-on w h g (unless-accepted (on_canvas? w h g) (Err A.Rectangle) (Ok tt) refl e).0
