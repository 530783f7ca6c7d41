-- What a checked call gives to the loops over its steps. Assumes nothing.
use Rattle.std.specs.Prelude.{ℕ, ◌*◌, ◌<◌, ◌≡◌, List, length}
use Rattle.filter.specs.declared.Step.{Step}
use Rattle.filter.specs.Bytes.{size, read}
use Rattle.filter.specs.Valid.{ValidPicture}
use Rattle.filter.specs.Accepted.{AcceptedSheet}

pub record Ready (w h : ℕ) (steps : List Step) (count : ℕ) (src ws scr : List ℕ) : Type 0 where
  pub sheet : AcceptedSheet w h steps count
  pub source : length src ≡ size w h
  pub workspace : length ws ≡ count * size w h
  pub scratch : length scr ≡ 2 * size w h
  pub valid : ValidPicture (read w h src 0)

-- every layer that stands in the workspace is valid
pub record ValidLayers (w h count : ℕ) (ws : List ℕ) : Type 0 where
  pub valid : (k : ℕ) → k < count → ValidPicture (read w h ws (k * size w h))
