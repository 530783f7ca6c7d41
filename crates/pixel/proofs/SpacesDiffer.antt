-- What the derived `!=` of two spaces says is what the rules' word says. Assumes nothing.
use Rattle.std.proofs.Common.{◌≡◌, refl, not}
use denote.Enum.Bare.{sameb}
use Rattle.pixel.specs.contracts.Space.{the_type}
use Rattle.pixel.specs.declared.Space as S
use Rattle.pixel.specs.declared.Space.TheVariants.{Srgb, Linear}
use Rattle.pixel.specs.Convert.{differ?}

pub differ-is : (from to : S.Space) → not (sameb the_type from to) ≡ differ? from to
unfolding differ?
differ-is Srgb Srgb = refl
differ-is Srgb Linear = refl
differ-is Linear Srgb = refl
differ-is Linear Linear = refl
