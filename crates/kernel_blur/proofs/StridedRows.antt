-- Laws of rows that lie a stride apart. Assumes nothing.
use mathlib.Core.Path.{◌≡◌, ap, ◌∙◌}
use mathlib.Core.List.{List}
use mathlib.Core.Logic.{⊎_elim}
use Prim.Native.Nat.{ℕ, ◌+◌, ◌-◌, ◌*◌, ◌≤◌}
use native.Mathlib.Omega.{arith}
use Rattle.window.specs.Store.{Filled}
use Rattle.window.proofs.Store.{lt-or-le}
use Rattle.kernel_blur.specs.StridedRows.{Rows}
use Rattle.window.proofs.Numbers.{line-end}

-- one row more
pub rows_more : (f : ℕ → ℕ → ℕ) (base stride n x : ℕ) (d d' d'' : List ℕ) → n ≤ stride → Rows f base stride n x d d'
    → Filled (λ j. f x (j - (base + x * stride))) (base + x * stride) (base + x * stride + n) d' d'' → Rows f base stride n (x + 1) d d''
rows_more f base stride n x d d' d'' le R F =
    let r : ℕ = base + x * stride in
    record {
      inside = λ v i h l. ⊎_elim
          (λ lt. F.before (base + v * stride + i) (omega (arith, line-end stride x v lt)) ∙ R.inside v i lt l)
          (λ ge. let e : v ≡ x = omega arith in rw e (F.inside (base + x * stride + i) (omega arith) (omega arith) ∙ ap (f x) (omega arith)))
          (lt-or-le v x);
      outside = λ j out. ⊎_elim
          (λ l. F.before j l)
          (λ l. ⊎_elim (λ k. let e : j ≡ base + x * stride + (j - r) = omega arith in absurd (out x (j - r) (omega arith) (omega arith) e)) (λ k. F.after j k) (lt-or-le j (r + n)))
          (lt-or-le j r)
          ∙ R.outside j (λ v i h. out v i (omega arith));
      long = F.long ∙ R.long;
    }
