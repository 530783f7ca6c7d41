-- A step as an effect, with what its sheet tells of its inputs: the working space that each is kept in. Assumes nothing.
use Rattle.std.specs.Prelude.{ℕ, List}
use Rattle.pixel.specs.declared.Space as S
use Rattle.pixel.specs.declared.Space.TheVariants.{Srgb}
use Rattle.pixel.specs.Convert.{converted}
use Rattle.filter.specs.declared.Input as I
use Rattle.filter.specs.declared.Input.TheVariants.{Source, SourceAlpha, Layer}
use Rattle.filter.specs.declared.Rect.{Rect}
use Rattle.filter.specs.declared.Resolved.{Resolved}
use Rattle.filter.specs.declared.Step.{Step}
use Rattle.filter.specs.Rect.{bounds_of}
use Rattle.filter.specs.Effect.{Env, Effect}
use Rattle.filter.specs.Kinds.{work, reads}
use Rattle.filter.specs.Steps.{resolved, step_at}

-- "The source is sRGB. A layer is kept in its step's space"
unfoldable pub space_of : List Step → I.Input → S.Space
space_of steps Source = Srgb
space_of steps SourceAlpha = Srgb
space_of steps (Layer n) = (step_at steps n).space

-- "converted when a step of the other space reads it": the inputs as a step of the space s reads them
abbrev pub seen : (I.Input → S.Space) → S.Space → Env → Env
seen spaces s E i x y = converted (spaces i) s (E i x y)

-- a resolved step as an effect on a canvas of w by h: its region by its bounds, its inputs kept in these spaces and seen in its own
abbrev pub effect_by : ℕ → ℕ → (I.Input → S.Space) → S.Space → Resolved → Rect → Effect
effect_by w h spaces s r region = record { work = λ E. work w h r (seen spaces s E); reads = reads w h r.shape; region = region }

unfoldable pub effect_of : ℕ → ℕ → (I.Input → S.Space) → Step → Effect
effect_of w h spaces s = effect_by w h spaces s.space (resolved s) (bounds_of s.region)

-- step n of a sheet
abbrev pub effects_of : ℕ → ℕ → List Step → ℕ → Effect
effects_of w h steps n = effect_of w h (space_of steps) (step_at steps n)
