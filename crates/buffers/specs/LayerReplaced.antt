-- A step of a render or of a redraw: slot n is now this picture, the other slots are as before. Assumes nothing.
use Rattle.std.specs.Prelude.{ℕ, ◌*◌, ◌≡◌, List, length}
use Rattle.filter.specs.Picture.{Picture}
use Rattle.filter.specs.Bytes.{size, read}

pub record LayerReplaced (w h n : ℕ) (p : Picture) (d d' : List ℕ) : Type 0 where
  pub here : read w h d' (n * size w h) ≡ p
  pub others : (k : ℕ) → ¬ (k ≡ n) → read w h d' (k * size w h) ≡ read w h d (k * size w h)
  pub long : length d' ≡ length d
