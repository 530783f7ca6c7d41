-- The pictures that stand in the caller's buffers, and rows of them. Assumes nothing.
use Rattle.std.specs.Prelude.{ℕ, ◌+◌, ◌-◌, ◌*◌, ◌≤◌, ◌<◌, ◌≡◌, true, List, length}
use Rattle.pixel.specs.Bytes.{Painted}
use Rattle.filter.specs.declared.Input.{Input}
use Rattle.filter.specs.declared.Input.TheVariants.{Source, SourceAlpha, Layer}
use Rattle.filter.specs.Picture.{Picture, alpha_of}
use Rattle.filter.specs.Effect.{Env}
use Rattle.filter.specs.Checks.{allowed?}
use Rattle.filter.specs.Bytes.{size, read}
use Rattle.filter.specs.Valid.{ValidPicture}
use Rattle.filter.specs.Limits.{longest_side, most_steps}

-- what stands at each input: the source, its alpha, and the layers in the workspace
unfoldable pub stands : ℕ → ℕ → List ℕ → List ℕ → Env
stands w h source workspace Source = read w h source 0
stands w h source workspace SourceAlpha = alpha_of (read w h source 0)
stands w h source workspace (Layer k) = read w h workspace (k * size w h)

-- where row y of layer n begins, in pixels and in bytes
abbrev pub row_start : ℕ → ℕ → ℕ → ℕ → ℕ
row_start w h n y = n * (w * h) + y * w

abbrev pub row_at : ℕ → ℕ → ℕ → ℕ → ℕ
row_at w h n y = n * size w h + 4 * (y * w)

-- the work row now starts with the pixels from `from` up to `to` of row y of the picture
abbrev pub Loaded : Picture → ℕ → ℕ → ℕ → List ℕ → List ℕ → Type 0
Loaded p y from to row row' = Painted (λ j. p (from + j) y) 0 0 (to - from) row row'

-- what drawing layer n asks of the canvas, the source and the workspace
pub record Sized (w h n : ℕ) (src ws : List ℕ) : Type 0 where
  pub wide : w ≤ longest_side
  pub high : h ≤ longest_side
  pub steps : n < most_steps
  pub source : length src ≡ size w h
  pub workspace : n * size w h + size w h ≤ length ws

-- every picture that step n may read is valid
pub record ValidInputs (n : ℕ) (E : Env) : Type 0 where
  pub valid : (i : Input) → allowed? n i ≡ true → ValidPicture (E i)
