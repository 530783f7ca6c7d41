-- A merge, one input more. Assumes nothing.
use mathlib.Core.Path.{◌≡◌, refl, ap, subst, ◌∙◌}
use mathlib.Core.Bool.{true}
use mathlib.Core.List.{List, map}
use Prim.Native.Nat.{ℕ, zero, suc, ◌+◌, ◌*◌, ◌<◌}
use native.Mathlib.Numerals.{add-one}
use native.Mathlib.Omega.{arith}
use Rattle.pixel.specs.declared.Operator.TheVariants.{Over}
use Rattle.pixel.specs.Bytes.{pixel_at, Painted, ValidRow}
use Rattle.pixel.specs.Composite.{composited, merged}
use Rattle.pixel.proofs.Composited.{composited-valid}
use Rattle.filter.specs.declared.Input.{Input}
use Rattle.filter.specs.declared.Inputs.{Inputs}
use Rattle.filter.specs.Effect.{Env}
use Rattle.filter.specs.Kinds.{first_inputs, stacked, here}
use Rattle.filter.specs.Checks.{allowed?}
use Rattle.filter.specs.Earlier.{Earlier}
use Rattle.buffers.specs.declared.RowPart.{RowPart}
use Rattle.buffers.specs.Context.{LoadedPart}
use Rattle.buffers.proofs.LoadedRows.{loaded-pixel, loaded-then}
use Rattle.draw_point.specs.RowDrawn.{merge_input_at, stack_of, RowStacked, Laid}

pub stacked-first : (E : Env) (is : Inputs) (x y : ℕ) → E is.first x y ≡ stacked E x y (first_inputs 1 is)
unfolding stacked merged
stacked-first E is x y = refl

pub stacked-more : (E : Env) (is : Inputs) (j x y : ℕ) → 0 < j → j < 4
    → composited Over (E (merge_input_at is j) x y) (stacked E x y (first_inputs j is)) ≡ stacked E x y (first_inputs (suc j) is)
unfolding stacked merged
stacked-more E is zero x y l m = absurd (omega arith)
stacked-more E is (suc zero) x y l m = refl
stacked-more E is (suc (suc zero)) x y l m = refl
stacked-more E is (suc (suc (suc zero))) x y l m = refl
stacked-more E is (suc (suc (suc (suc j)))) x y l m = absurd (omega arith)

-- every input of a merge of c is one that step n may read
pub merge-allowed : (n c j : ℕ) (is : Inputs) → Earlier n (map here (first_inputs c is)) → j < c → j < 4 → allowed? n (merge_input_at is j) ≡ true
merge-allowed n zero j is h l m = absurd (omega arith)
merge-allowed n (suc zero) zero is h l m = h.0
merge-allowed n (suc zero) (suc j) is h l m = absurd (omega arith)
merge-allowed n (suc (suc zero)) zero is h l m = h.0
merge-allowed n (suc (suc zero)) (suc zero) is h l m = h.1.0
merge-allowed n (suc (suc zero)) (suc (suc j)) is h l m = absurd (omega arith)
merge-allowed n (suc (suc (suc zero))) zero is h l m = h.0
merge-allowed n (suc (suc (suc zero))) (suc zero) is h l m = h.1.0
merge-allowed n (suc (suc (suc zero))) (suc (suc zero)) is h l m = h.1.1.0
merge-allowed n (suc (suc (suc zero))) (suc (suc (suc j))) is h l m = absurd (omega arith)
merge-allowed n (suc (suc (suc (suc c)))) zero is h l m = h.0
merge-allowed n (suc (suc (suc (suc c)))) (suc zero) is h l m = h.1.0
merge-allowed n (suc (suc (suc (suc c)))) (suc (suc zero)) is h l m = h.1.1.0
merge-allowed n (suc (suc (suc (suc c)))) (suc (suc (suc zero))) is h l m = h.1.1.1.0
merge-allowed n (suc (suc (suc (suc c)))) (suc (suc (suc (suc j)))) is h l m = absurd (omega arith)

module _ (E : Env) (is : Inputs) (p : RowPart) where
  -- a row of the first j inputs, and one more laid over it
  pub stacked-row : (j : ℕ) (i : Input) (d₀ d d' : List ℕ) → 0 < j → j < 4 → i ≡ merge_input_at is j → RowStacked E is j p d₀ d → Laid (E i) p d d'
      → RowStacked E is (j + 1) p d₀ d'
  stacked-row j i d₀ d d' l m e L P = rw add-one (record {
    inside = λ x a b.
        P.inside x a b
        ∙ ap (λ (k : Input). composited Over (E k (p.from + x) p.y) (pixel_at d (4 * x))) e
        ∙ ap (composited Over (E (merge_input_at is j) (p.from + x) p.y)) (loaded-pixel (stack_of E is j) p.y p.from p.to d₀ d L x b)
        ∙ stacked-more E is j (p.from + x) p.y l m;
    before = λ i h. P.before i h ∙ L.before i h;
    after = λ i h. P.after i h ∙ L.after i h;
    long = P.long ∙ L.long;
  })

  -- all of them, after the first was loaded
  pub stacked-all : (j n : ℕ) (d₀ d d' : List ℕ) → j ≡ n → LoadedPart (E is.first) p d₀ d → RowStacked E is j p d d' → RowStacked E is n p d₀ d'
  stacked-all j n d₀ d d' e L M =
      loaded-then (E is.first) p.y p.from p.to d₀ d L (stack_of E is n) d' (subst (λ (k : ℕ). RowStacked E is k p d d') e M)

-- a valid row laid over a valid row
pub over-valid : (a u u' : List ℕ) (n : ℕ) → ValidRow a n → ValidRow u n → Painted (λ x. composited Over (pixel_at a (4 * x)) (pixel_at u (4 * x))) 0 0 n u u' → ValidRow u' n
over-valid a u u' n va vu P = record {
  valid = λ x l.
      let z : 4 * x ≡ 0 + 4 * x = omega arith in
      let e : pixel_at u' (4 * x) ≡ composited Over (pixel_at a (4 * x)) (pixel_at u (4 * x)) = ap (pixel_at u') z ∙ P.inside x (omega arith) l in
      rw e (composited-valid Over (pixel_at a (4 * x)) (pixel_at u (4 * x)) (va.valid x l) (vu.valid x l));
}
