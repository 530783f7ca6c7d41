-- Pictures read off a buffer. Assumes nothing.
use mathlib.Core.Path.{◌≡◌, sym, ◌∙◌, fun_ext}
use mathlib.Core.List.{List}
use Prim.Native.Nat.{ℕ, ◌+◌, ◌*◌, ◌<◌}
use Rattle.pixel.specs.Bytes.{pixel_at}
use Rattle.filter.specs.declared.Input.{Input}
use Rattle.filter.specs.declared.Input.TheVariants.{Source, SourceAlpha, Layer}
use Rattle.filter.specs.Rect.{canvas_of, In}
use Rattle.filter.specs.Valid.{BlankOutside}
use Rattle.filter.specs.Bytes.{size, read}
use Rattle.filter.proofs.PlacesInRects.{in?}
use Rattle.filter.proofs.Patches.{patch-in, patch-out}
use Rattle.filter.proofs.ReadPictures.{read-blank}
use Rattle.buffers.specs.Buffers.{stands}

-- two buffers with the same pixels there show the same picture
pub read_same : (w h : ℕ) (d e : List ℕ) (o : ℕ) → ((x y : ℕ) → x < w → y < h → pixel_at d (o + 4 * (y * w + x)) ≡ pixel_at e (o + 4 * (y * w + x))) → read w h d o ≡ read w h e o
unfolding read
read_same w h d e o same = fun_ext λ x. fun_ext λ y. go x y (in? (canvas_of w h) x y)
  where
    go : (x y : ℕ) → Dec (In (canvas_of w h) x y) → read w h d o x y ≡ read w h e o x y
    go x y (yes i) = patch-in _ _ _ i ∙ same x y i.right i.bottom ∙ sym (patch-in _ _ _ i)
    go x y (no i) = patch-out _ _ _ i ∙ sym (patch-out _ _ _ i)

-- every picture that stands in the buffers is blank outside the canvas
pub stands-blank : (w h : ℕ) (src ws : List ℕ) (i : Input) → BlankOutside (canvas_of w h) (stands w h src ws i)
unfolding stands
stands-blank w h src ws Source = read-blank w h src 0
stands-blank w h src ws SourceAlpha = record { outside = λ x y i. simp ((read-blank w h src 0).outside x y i) }
stands-blank w h src ws (Layer k) = read-blank w h ws (k * size w h)
