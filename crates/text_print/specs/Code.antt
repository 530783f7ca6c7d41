-- What a printing function does to a buffer, and the row that it prints. Assumes nothing.
use Rattle.std.specs.Prelude.{◌≡◌, List, ℕ, ◌+◌, ◌*◌, length}
use Rattle.pixel.specs.declared.Pixel.{Pixel}
use Rattle.pixel.specs.declared.Space as S
use Rattle.pixel.specs.declared.Space.TheVariants.{Srgb}
use Rattle.pixel.specs.Bytes.{pixel_at}
use Rattle.pixel.specs.Convert.{converted}
use Rattle.text_step.specs.ManyFields.{stored}

-- d' is d with t stored from the index at on, and the text after it goes to the index `next`
pub record Put (t : List ℕ) (at : ℕ) (d d' : List ℕ) (next : ℕ) : Type 0 where
  pub is : d' ≡ stored d at t
  pub ends : next ≡ at + length t

-- the pixels whose bytes start at from and that are kept in the space s, in sRGB
abbrev pub row_from : S.Space → List ℕ → ℕ → ℕ → Pixel
row_from s d from x = converted s Srgb (pixel_at d (from + 4 * x))
