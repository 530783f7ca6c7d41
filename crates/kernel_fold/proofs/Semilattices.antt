-- Operations that are associative, commutative and idempotent, as the least and the largest are. Assumes nothing.
use mathlib.Core.Path.{◌≡◌, sym, ap, ◌∙◌}
use Prim.Native.Nat.{ℕ, min, max}
use native.Mathlib.Omega.{arith}
use Rattle.kernel_fold.specs.declared.Extreme.{Extreme}
use Rattle.kernel_fold.specs.declared.Extreme.TheVariants.{Least, Largest}
use Rattle.kernel_fold.specs.Operation.{operation}

pub record Semilattice (op : ℕ → ℕ → ℕ) : Type 0 where
  pub assoc : (x y z : ℕ) → op (op x y) z ≡ op x (op y z)
  pub comm : (x y : ℕ) → op x y ≡ op y x
  pub idem : (x : ℕ) → op x x ≡ x

module _ (op : ℕ → ℕ → ℕ) (S : Semilattice op) where
  -- x taken in twice is x taken in once
  pub twice : (x y : ℕ) → op (op x y) y ≡ op x y
  twice x y = S.assoc x y y ∙ ap (op x) (S.idem y)

  pub swap : (x y z : ℕ) → op (op x y) z ≡ op (op x z) y
  swap x y z = S.assoc x y z ∙ ap (op x) (S.comm y z) ∙ sym (S.assoc x z y)

  pub again-first : (x y : ℕ) → op (op x y) x ≡ op x y
  again-first x y = swap x y x ∙ ap (λ (k : ℕ). op k y) (S.idem x)

  -- y between x and z may be taken in once or twice
  pub between : (x y z : ℕ) → op (op x z) y ≡ op (op x y) (op y z)
  between x y z = swap x z y ∙ ap (λ (k : ℕ). op k z) (sym (twice x y)) ∙ S.assoc _ y z

pub min-lattice : Semilattice min
min-lattice = record { assoc = λ x y z. omega arith; comm = λ x y. omega arith; idem = λ x. omega arith }

pub max-lattice : Semilattice max
max-lattice = record { assoc = λ x y z. omega arith; comm = λ x y. omega arith; idem = λ x. omega arith }

pub lattice : (op : Extreme) → Semilattice (operation op)
unfolding operation
lattice Least = min-lattice
lattice Largest = max-lattice
