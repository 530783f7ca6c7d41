-- How a part of an input comes to a step: read in the source, copied as it stands, or brought to the step's working space. Assumes nothing.
use Rattle.std.specs.Prelude.{ℕ, ◌-◌, ◌*◌, ◌≡◌, Bool, true, false, not, List, length}
use Rattle.pixel.specs.declared.Space.TheVariants.{Srgb}
use Rattle.pixel.specs.Convert.{differ?}
use Rattle.filter.specs.declared.Input.{Input}
use Rattle.filter.specs.declared.Input.TheVariants.{Source, SourceAlpha, Layer}
use Rattle.filter.specs.Picture.{Picture}
use Rattle.buffers.specs.declared.Context.{Context}
use Rattle.buffers.specs.declared.RowPart.{RowPart}
use Rattle.buffers.specs.Shown.{spaces_in, shown}
use Rattle.buffers.specs.Context.{LoadedPart}

-- whether the rows of an input are converted; the source's alpha has no colours to convert
unfoldable pub converts? : Context → Input → Bool
converts? context Source = differ? Srgb context.space
converts? context SourceAlpha = false
converts? context (Layer k) = differ? (spaces_in context (Layer k)) context.space

-- the source, where it is not converted
unfoldable pub lies? : Context → Input → Bool
lies? context Source = not (converts? context Source)
lies? context SourceAlpha = false
lies? context (Layer k) = false

-- a layer, where it is not converted
unfoldable pub stays? : Context → Input → Bool
stays? context Source = false
stays? context SourceAlpha = false
stays? context (Layer k) = not (converts? context (Layer k))

-- the work row starts with the part as the step sees it, if b
abbrev pub HeldIf : Bool → Context → Input → RowPart → List ℕ → List ℕ → List ℕ → Type 0
HeldIf b c i p src ws row = b ≡ true → LoadedPart (shown c src ws i) p row row

-- the part is copied to the start of the work row if b, and nothing else changes
pub record CopiedIf (b : Bool) (c : Context) (i : Input) (p : RowPart) (src ws row row' : List ℕ) : Type 0 where
  pub copied : b ≡ true → LoadedPart (shown c src ws i) p row row'
  pub kept : b ≡ false → row' ≡ row
  pub long : length row' ≡ length row

-- what is not converted is copied, or is there
abbrev pub OwnCopied : Context → Input → RowPart → List ℕ → List ℕ → List ℕ → List ℕ → Type 0
OwnCopied c i p src ws row row' = CopiedIf (not (converts? c i)) c i p src ws row row'

abbrev pub OwnHeld : Context → Input → RowPart → List ℕ → List ℕ → List ℕ → Type 0
OwnHeld c i p src ws row = HeldIf (not (converts? c i)) c i p src ws row

-- the same of a layer
abbrev pub LayerCopied : Context → Input → RowPart → List ℕ → List ℕ → List ℕ → List ℕ → Type 0
LayerCopied c i p src ws row row' = CopiedIf (stays? c i) c i p src ws row row'

abbrev pub LayerHeld : Context → Input → RowPart → List ℕ → List ℕ → List ℕ → Type 0
LayerHeld c i p src ws row = HeldIf (stays? c i) c i p src ws row

-- the bytes are the part of the picture, and no more
pub record Seen (q : Picture) (p : RowPart) (bytes : List ℕ) : Type 0 where
  pub long : length bytes ≡ 4 * (p.to - p.from)
  pub held : LoadedPart q p bytes bytes
