-- A curve, drawn inside a rectangle and in a part of a row; and what its maps hold. Assumes nothing.
use Rattle.std.specs.Prelude.{ℕ, ◌+◌, ◌<◌, ◌≡◌, List, length, get_or}
use Rattle.pixel.specs.Remap.{Maps, remapped}
use Rattle.filter.specs.declared.Input.{Input}
use Rattle.filter.specs.declared.Rect.{Rect}
use Rattle.buffers.specs.declared.Context.{Context}
use Rattle.buffers.specs.Shown.{shown}
use Rattle.buffers.specs.Context.{DrawnIn}

-- each pixel of the rectangle is the input's at its place, remapped
abbrev pub CurveDrawn : Context → Maps → Input → Rect → List ℕ → List ℕ → List ℕ → Type 0
CurveDrawn c f i r src ws ws' = DrawnIn c r (λ x y. remapped f (shown c src ws i x y)) ws ws'

-- the maps of R, G, B and A, 256 bytes each
pub record HoldsMaps (f : Maps) (maps : List ℕ) : Type 0 where
  pub long : length maps ≡ 1024
  pub r : (c : ℕ) → c < 256 → get_or maps c 0 ≡ f.r c
  pub g : (c : ℕ) → c < 256 → get_or maps (256 + c) 0 ≡ f.g c
  pub b : (c : ℕ) → c < 256 → get_or maps (512 + c) 0 ≡ f.b c
  pub a : (c : ℕ) → c < 256 → get_or maps (768 + c) 0 ≡ f.a c
