use Rattle.std.proofs.Common.{◌≡◌, ℕ, ◌≤◌, ◌<◌}
use Rattle.pixel.specs.Bytes.{Painted}
use Rattle.kernel_composite.specs.Factors.{twice, alpha_in}
use Rattle.kernel_composite.proofs.factor.factors.Given as goal

abbrev pub invariant-loop-x : goal.invariant-loop-x
invariant-loop-x g l =
    (l.x ≤ l.n)
    × ((φ : ℕ → ℕ) → ((t r : ℕ) → t < 256 → goal.F-post g l.factor t r → r ≡ φ t) → Painted (λ x. twice (φ (alpha_in l.a x))) 0 0 l.x l.initial.f l.f)
