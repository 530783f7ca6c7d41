-- The last layer of an accepted sheet. Assumes nothing.
use mathlib.Core.Path.{◌≡◌, sym, ap, ◌∙◌, fun_ext}
use mathlib.Core.List.{List}
use Prim.Native.Nat.{ℕ, zero, suc, ◌+◌, ◌-◌, ◌*◌, ◌≤◌, ◌<◌}
use native.Mathlib.Omega.{arith}
use native.Mathlib.Nat.{add-mul}
use lib.ListN.{length, take, drop, length-drop}
use lib.Seq.{length-take-le}
use Rattle.pixel.proofs.PaintedRows.{pixel-part}
use Rattle.filter.specs.declared.Step.{Step}
use Rattle.filter.specs.Rect.{In, canvas_of}
use Rattle.filter.specs.Bytes.{size, read, bytes_of, layers_of}
use Rattle.filter.proofs.PlacesInRects.{in?}
use Rattle.filter.proofs.ReadPictures.{read-pixel, read-blank, holds_read}
use Rattle.filter.proofs.BytesHoldPictures.{bytes-hold}
use Rattle.filter.proofs.RedrawIsRenderInBytes.{layer-blank}
use Rattle.text_print.proofs.PrintedRows.{row-end}

-- a part of the bytes holds the picture that starts there
read-part : (w h : ℕ) (d : List ℕ) (o k : ℕ) → size w h ≤ k → read w h (take k (drop o d)) 0 ≡ read w h d o
read-part w h d o k room = fun_ext λ x. fun_ext λ y. go x y (in? (canvas_of w h) x y)
  where
    go : (x y : ℕ) → Dec (In (canvas_of w h) x y) → read w h (take k (drop o d)) 0 x y ≡ read w h d o x y
    go x y (yes t) =
        read-pixel w h (take k (drop o d)) 0 x y t.right t.bottom
        ∙ pixel-part d o k (0 + 4 * (y * w + x)) (o + 4 * (y * w + x)) (omega (arith, row-end w h y t.bottom, t.right)) (omega arith)
        ∙ sym (read-pixel w h d o x y t.right t.bottom)
    go x y (no t) = (read-blank w h (take k (drop o d)) 0).outside x y t ∙ sym ((read-blank w h d o).outside x y t)

-- the last of `count` layers of k bytes
module _ (w h count k : ℕ) (d : List ℕ) (some : 0 < count) (e : k ≡ size w h) (l : length d ≡ count * size w h) where
  pub last-part : (count - 1) * k + k ≡ length d
  last-part = rw (l, e) (go count some)
    where
      go : (n : ℕ) → 0 < n → (n - 1) * size w h + size w h ≡ n * size w h
      go zero l = absurd (omega arith)
      go (suc n) l = let f : suc n - 1 ≡ n = omega arith in rw f (omega (arith, add-mul n 1 (size w h)))

  pub last-length : length (take (length d - (count - 1) * k) (drop ((count - 1) * k) d)) ≡ size w h
  last-length = length-take-le (length d - (count - 1) * k) (drop ((count - 1) * k) d) (omega (arith, length-drop ((count - 1) * k) d)) ∙ omega (arith, last-part)

  pub last-picture : read w h (take (length d - (count - 1) * k) (drop ((count - 1) * k) d)) 0 ≡ read w h d ((count - 1) * size w h)
  last-picture =
      read-part w h d ((count - 1) * k) (length d - (count - 1) * k) (omega (arith, last-part)) ∙ ap (λ (n : ℕ). read w h d ((count - 1) * n)) e

-- where the bytes of the layers are, the last one is read
pub last-read : (w h : ℕ) (steps : List Step) (count : ℕ) (src d : List ℕ) → 0 < count → d ≡ bytes_of w h count (layers_of w h steps count src)
    → read w h d ((count - 1) * size w h) ≡ layers_of w h steps count src (count - 1)
last-read w h steps count src d some e =
    rw e
    (holds_read w h count (bytes_of w h count (layers_of w h steps count src)) (layers_of w h steps count src)
    (bytes-hold w h count (layers_of w h steps count src)) (count - 1) (omega arith) (layer-blank w h steps count src (count - 1) (omega arith)))
