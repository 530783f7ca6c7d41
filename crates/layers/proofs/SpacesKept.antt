-- The spaces of the layers so far, as the loop holds them, are those of their steps. Assumes nothing.
use Prim.Native.Nat.{ℕ, ◌+◌, ◌<◌}
use mathlib.Core.Path.{◌≡◌, refl, ◌∙◌}
use mathlib.Core.Bool.{true}
use mathlib.Core.List.{List}
use native.Mathlib.Omega.{arith}
use native.Mathlib.Decide.{ℕ_discrete}
use lib.ListN.{length, get_or, set, length-set, replicate}
use lib.Seq.{get_or-set_same, get_or-set_other}
use borrow.Author.Tests.{ltb-true}
use Rattle.pixel.specs.declared.Space as S
use Rattle.pixel.specs.declared.Space.TheVariants.{Srgb}
use Rattle.filter.specs.declared.Input.{Input}
use Rattle.filter.specs.declared.Input.TheVariants.{Source, SourceAlpha, Layer}
use Rattle.filter.specs.declared.Step.{Step}
use Rattle.filter.specs.Checks.{allowed?}
use Rattle.filter.specs.Limits.{most_steps}
use Rattle.filter.specs.Steps.{step_at}
use Rattle.filter.specs.Sheets.{space_of}
use Rattle.damage.specs.declared.SoFar.{SoFar}
use Rattle.buffers.specs.Shown.{spaces_by}

-- after n steps
pub record SpacesKept (steps : List Step) (n : ℕ) (zs : List S.Space) : Type 0 where
  pub slots : length zs ≡ most_steps
  pub each : (k : ℕ) → k < n → get_or zs k Srgb ≡ (step_at steps k).space

pub spaces-kept-none : (steps : List Step) → SpacesKept steps 0 (replicate most_steps Srgb)
spaces-kept-none steps = record { slots = refl; each = λ k l. absurd (omega arith) }

pub spaces-kept-more : (steps : List Step) (n : ℕ) (zs zs' : List S.Space) → n < most_steps → SpacesKept steps n zs
    → zs' ≡ set zs n (step_at steps n).space → SpacesKept steps (n + 1) zs'
spaces-kept-more steps n zs zs' small K e = rw e record { slots = length-set zs n _ ∙ K.slots; each = λ k l. go k l (ℕ_discrete k n) }
  where
    go : (k : ℕ) → k < n + 1 → Dec (k ≡ n) → get_or (set zs n (step_at steps n).space) k Srgb ≡ (step_at steps k).space
    go k l (yes q) = rw q (get_or-set_same zs n (step_at steps n).space Srgb (omega (arith, K.slots)))
    go k l (no ne) = get_or-set_other zs n k _ Srgb ne ∙ K.each k (omega (arith, ne))

pub kept-spaces : (steps : List Step) (n : ℕ) (z : SoFar) → SpacesKept steps n z.spaces → (i : Input) → allowed? n i ≡ true → spaces_by z.spaces i ≡ space_of steps i
unfolding spaces_by space_of
kept-spaces steps n z K Source t = refl
kept-spaces steps n z K SourceAlpha t = refl
kept-spaces steps n z K (Layer k) t = K.each k (ltb-true k n t)
