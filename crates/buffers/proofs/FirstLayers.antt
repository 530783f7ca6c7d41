-- The first n layers of a workspace, as the loops over steps build them. Assumes nothing.
use mathlib.Core.Path.{◌≡◌, sym, ap, ◌∙◌}
use mathlib.Core.List.{List}
use Prim.Native.Nat.{ℕ, ◌+◌, ◌*◌, ◌<◌}
use native.Mathlib.Omega.{arith}
use native.Mathlib.Decide.{ℕ_discrete}
use lib.ListN.{length}
use Rattle.filter.specs.Picture.{Picture}
use Rattle.filter.specs.Bytes.{size, read, Holds}
use Rattle.filter.proofs.ReadPictures.{read-pixel}
use Rattle.buffers.specs.LayerReplaced.{LayerReplaced}

-- the first n layers are the pictures p
pub record FirstLayers (w h n : ℕ) (p : ℕ → Picture) (d : List ℕ) : Type 0 where
  pub each : (k : ℕ) → k < n → read w h d (k * size w h) ≡ p k

pub first-layers-none : (w h : ℕ) (p : ℕ → Picture) (d : List ℕ) → FirstLayers w h 0 p d
first-layers-none w h p d = record { each = λ k l. absurd (omega arith) }

pub first-layers-more : (w h n : ℕ) (p : ℕ → Picture) (q : Picture) (d d' : List ℕ) → q ≡ p n → FirstLayers w h n p d → LayerReplaced w h n q d d' → FirstLayers w h (n + 1) p d'
first-layers-more w h n p q d d' e U T = record { each = λ k l. elim (ℕ_discrete k n) [ yes i ↦ rw i (T.here ∙ e) | no ne ↦ T.others k ne ∙ U.each k (omega arith) ] }

pub first-layers-hold : (w h count : ℕ) (p : ℕ → Picture) (d : List ℕ) → length d ≡ count * size w h → FirstLayers w h count p d → Holds w h count d p
first-layers-hold w h count p d e U = record { long = e; same = λ n x y ln lx ly. sym (read-pixel w h d (n * size w h) x y lx ly) ∙ ap (λ (q : Picture). q x y) (U.each n ln) }
