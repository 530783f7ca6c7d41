-- What a row becomes. Assumes nothing.
use Rattle.std.specs.Prelude.{ℕ, ◌+◌, ◌-◌, ◌*◌, Bool, true, false, List, nat_le, nat_lt}
use Rattle.pixel.specs.declared.Pixel.{Pixel}
use Rattle.pixel.specs.Alpha.{pixel, clear}
use Rattle.pixel.specs.Bytes.{pixel_at}

-- the source's alpha: colours 0, alpha kept
abbrev pub alpha_only : Pixel → Pixel
alpha_only p = pixel 0 0 0 p.a

-- p where the test holds, else transparent black
abbrev pub or_clear : Bool → Pixel → Pixel
or_clear true p = p
or_clear false p = clear

-- offset: the pixel x of a row of w pixels that is moved by right - left; what comes from outside the row is transparent black
unfoldable pub moved_row : List ℕ → ℕ → ℕ → ℕ → ℕ → Pixel
moved_row row w right left x =
    or_clear (nat_le right (x + left)) (or_clear (nat_lt (x + left - right) w) (pixel_at row (4 * (x + left - right))))
