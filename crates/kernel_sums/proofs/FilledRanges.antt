-- Laws of stores at a range: the same by another function, none, and one after another. Assumes nothing.
use mathlib.Core.Path.{◌≡◌, refl, ◌∙◌}
use mathlib.Core.List.{List}
use Prim.Native.Nat.{ℕ, ◌≤◌, ◌<◌}
use lib.ListN.{get_or}
use Rattle.window.specs.Store.{Filled}

-- another function that is the same in the range
pub filled-as : (g f : ℕ → ℕ) (a b : ℕ) (d d' : List ℕ) → ((i : ℕ) → a ≤ i → i < b → g i ≡ f i) → Filled g a b d d' → Filled f a b d d'
filled-as g f a b d d' e F = record { inside = λ i l h. F.inside i l h ∙ e i l h; before = F.before; after = F.after; long = F.long }

-- the list has the function there already
pub filled-same : (f : ℕ → ℕ) (a b : ℕ) (d : List ℕ) → ((i : ℕ) → a ≤ i → i < b → get_or d i 0 ≡ f i) → Filled f a b d d
filled-same f a b d e = record { inside = e; before = λ i h. refl; after = λ i h. refl; long = refl }

-- stores over stores
pub filled-then : (f g : ℕ → ℕ) (a b : ℕ) (d d' d'' : List ℕ) → Filled f a b d d' → Filled g a b d' d'' → Filled g a b d d''
filled-then f g a b d d' d'' F G = record {
  inside = G.inside;
  before = λ i h. G.before i h ∙ F.before i h;
  after = λ i h. G.after i h ∙ F.after i h;
  long = G.long ∙ F.long;
}
