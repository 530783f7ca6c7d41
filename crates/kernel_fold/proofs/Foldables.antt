-- What a fold of bytes asks, from lines that lie apart. Assumes nothing.
use mathlib.Core.List.{List, [], ◌∷◌}
use mathlib.Core.Logic.{inl, inr, ⊎_elim}
use Prim.Native.Nat.{ℕ, ◌+◌, ◌*◌, ◌≤◌}
use native.Mathlib.Nat.{mul-le-mul_right}
use native.Mathlib.Omega.{arith}
use lib.ListN.{length}
use mathlib.Core.Path.{◌≡◌}
use Rattle.std.specs.Prelude.{All}
use Rattle.std.proofs.lemmas.List.Elements.{All-cons}
use Rattle.window.specs.Ranges.{Apart}
use Rattle.window.proofs.Store.{lt-or-le}
use Rattle.kernel_fold.specs.declared.between.Between.{Between}
use Rattle.kernel_fold.specs.Ranges.{Foldable, InBuffer}

-- the lines that are read and those that are stored lie apart
pub apart-of : (b : Between) → Apart b.from (b.count * b.n) b.to (b.count * b.n)
apart-of b = ⊎_elim (λ l. inr (b.apart l)) (λ l. inl l) (lt-or-le b.to (b.from + b.count * b.n))

-- lines at both ends are among them all
pub room : (b : Between) (s t : ℕ) → s + t ≤ b.count → s * b.n + t * b.n ≤ b.count * b.n
room b s t h = omega (arith, mul-le-mul_right b.n h)

-- lines that are read and lines that are stored, in a buffer as long as the one that is known
module _ (b : Between) (d d' : List ℕ) (inside : InBuffer b d) (long : length d' ≡ length d) where
  pub still : InBuffer b d'
  still = (omega (arith, inside.0), omega (arith, inside.1))

  module _ (at m : ℕ) (stored : (b.to ≤ at) × (at + m ≤ b.to + b.count * b.n)) where
    -- m bytes from w on are among those that are read
    abbrev pub Read : ℕ → Type 0
    Read w = (b.from ≤ w) × (w + m ≤ b.from + b.count * b.n)

    foldable : (w : ℕ) → Read w → Foldable w at m d'
    foldable w h = (omega (arith, inside.0), ⊎_elim (λ g. inl (omega arith)) (λ g. inr (omega arith)) (apart-of b))

    ends : at + m ≤ length d'
    ends = omega (arith, inside.1)

    none : All (λ w. Foldable w at m d') []
    none k x h = absurd (omega arith)

    more : (w : ℕ) (ws : List ℕ) → Read w → All (λ w. Foldable w at m d') ws → All (λ w. Foldable w at m d') (w ∷ ws)
    more w ws h = All-cons (λ w. Foldable w at m d') w ws (foldable w h)

    pub two : (w x : ℕ) → Read w → Read x → Foldable w at m d' × All (λ w. Foldable w at m d') (x ∷ []) × (at + m ≤ length d')
    two w x h k = (foldable w h, more x [] k none, ends)

    pub three : (w x y : ℕ) → Read w → Read x → Read y → Foldable w at m d' × All (λ w. Foldable w at m d') (x ∷ y ∷ []) × (at + m ≤ length d')
    three w x y h k l = (foldable w h, more x (y ∷ []) k (more y [] l none), ends)

    pub four : (w x y z : ℕ) → Read w → Read x → Read y → Read z → Foldable w at m d' × All (λ w. Foldable w at m d') (x ∷ y ∷ z ∷ []) × (at + m ≤ length d')
    four w x y z h k l o = (foldable w h, more x (y ∷ z ∷ []) k (more y (z ∷ []) l (more z [] o none)), ends)
