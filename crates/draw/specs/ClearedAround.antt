-- A layer cleared around a rectangle. Assumes nothing.
use Rattle.std.specs.Prelude.{ℕ, ◌+◌, ◌*◌, ◌<◌, ◌≡◌, List, length}
use Rattle.pixel.specs.Alpha.{clear}
use Rattle.pixel.specs.Bytes.{pixel_at}
use Rattle.filter.specs.declared.Rect.{Rect}
use Rattle.filter.specs.Rect.{In}
use Rattle.filter.specs.Bytes.{size}

-- layer n of d' is transparent black outside r, inside it may hold anything; every other layer is as in d
pub record ClearedAround (w h n : ℕ) (r : Rect) (d d' : List ℕ) : Type 0 where
  pub outside : (x y : ℕ) → x < w → y < h → ¬ In r x y → pixel_at d' (n * size w h + 4 * (y * w + x)) ≡ clear
  pub others : (k x y : ℕ) → ¬ (k ≡ n) → x < w → y < h → pixel_at d' (k * size w h + 4 * (y * w + x)) ≡ pixel_at d (k * size w h + 4 * (y * w + x))
  pub long : length d' ≡ length d
