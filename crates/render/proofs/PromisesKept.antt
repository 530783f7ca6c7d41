-- From the pictures that the loop leaves to the promises on bytes. Assumes nothing.
use Prim.Native.Nat.{ℕ, ◌*◌, ◌<◌}
use mathlib.Core.Path.{◌≡◌, refl, sym, ap, ◌∙◌, subst}
use mathlib.Core.Bool.{Bool, true, false, false≢true}
use mathlib.Core.List.{List}
use lib.ListN.{replicate}
use Rattle.filter.specs.declared.Call.{Call}
use Rattle.filter.specs.declared.Call.TheVariants as C
use Rattle.filter.specs.declared.Region.{Region}
use Rattle.filter.specs.declared.Sheet.{Sheet}
use Rattle.filter.specs.declared.Step.{Step}
use Rattle.filter.specs.Picture.{Picture}
use Rattle.filter.specs.Rect.{bounds_of}
use Rattle.filter.specs.Bytes.{size, read, Holds, layers_of, redrawn_of}
use Rattle.filter.specs.Valid.{ValidPicture}
use Rattle.filter.proofs.BytesHoldPictures.{bytes-hold, holds-bytes}
use Rattle.filter.proofs.RedrawIsRenderInBytes.{redraw-buffers, redraw-keeps}
use Rattle.filter.proofs.ValidLayers.{layers-valid, redrawn-layers-valid}
use Rattle.filter.specs.Answers.{Answer, accepted?, number_of, place_of}
use Rattle.layers.specs.Given.{Given, giving}
use Rattle.layers.specs.Drawing.{ReadyFor, Drawing, drawn_of, count_for}
use Rattle.render.specs.Code.{usable_of}
use Rattle.render.specs.Promise.{taken, answered, as_number, as_place, if_accepted, layer_bytes, drawn_bytes, if_drawn, pixels_worked, zeros, Redraws, RedrawsFor, AllValid, ValidFor}

pub if-accepted : (a : Answer) (new old d : List ℕ) → accepted? a ≡ true → d ≡ new → d ≡ if_accepted a new old
if-accepted a new old d e f = rw e f

pub if-refused : (a : Answer) (new old d : List ℕ) → accepted? a ≡ false → d ≡ old → d ≡ if_accepted a new old
if-refused a new old d e f = rw e f

-- valid pictures, so valid bytes
holds-valid : (w h n : ℕ) (d : List ℕ) (p : ℕ → Picture) → Holds w h n d p → ((k : ℕ) → ValidPicture (p k)) → AllValid w h n d
holds-valid w h n d p H ok = record { valid = λ k x y lk lx ly. rw (H.same k x y lk lx ly) ((ok k).valid x y) }

-- demand 3
redraws : (w h : ℕ) (steps : List Step) (n : ℕ) (g : Region) (src before after : List ℕ)
    → Holds w h n after (redrawn_of w h steps n (bounds_of g) before src) → Redraws w h steps n g src before after
redraws w h steps n g src before after H = record {
  current = λ old same held. redraw-buffers w h steps n (bounds_of g) old src before after (layer_bytes w h steps n src) same
      (rw held (bytes-hold w h n (layers_of w h steps n old))) H (bytes-hold w h n (layers_of w h steps n src));
  elsewhere = redraw-keeps w h steps n (bounds_of g) src before after H;
}

-- all that is promised of a call with the answer a that worked so many pixels, the workspace d and the scratch buffer z
pub record Promised (g : Given) (a : Answer) (total : ℕ) (d z : List ℕ) : Type 0 where
  pub answers : a ≡ answered g
  pub number : number_of a ≡ as_number g
  pub place : place_of a ≡ as_place g
  pub counts : total ≡ pixels_worked a g.call g.sheet g.steps
  pub layers : d ≡ if_drawn a g
  pub cleared : z ≡ if_accepted a (zeros g.scratch) g.scratch
  pub redraws : RedrawsFor a g d
  pub valid : ValidFor a g d

-- a sheet with so many steps
abbrev pub with : Sheet → ℕ → Sheet
with s n = record { width = s.width; height = s.height; count = n }

module _ (call : Call) (s : Sheet) (steps : List Step) (src ws scr : List ℕ) (a : Answer) (d z : List ℕ) (total : ℕ) where
  abbrev n : ℕ
  n = taken s steps

  abbrev g : Given
  g = giving call s steps src ws scr

  -- an accepted call
  module _ (t : accepted? a ≡ true) (R : ReadyFor call (with s n) steps src ws scr) (D : Drawing (giving call (with s n) steps src ws scr) a d z total) where
    abbrev H : Holds s.width s.height n d (drawn_of call s.width s.height steps n ws src)
    H = (D.drawn t).0

    bytes : d ≡ drawn_bytes call s steps src ws
    unfolding drawn_bytes
    bytes = go call H
      where
        go : (c : Call) → Holds s.width s.height n d (drawn_of c s.width s.height steps n ws src) → d ≡ drawn_bytes c s steps src ws
        go C.Render k = holds-bytes s.width s.height n _ d k
        go (C.Redraw g) k = holds-bytes s.width s.height n _ d k

    counts : total ≡ pixels_worked a call s steps
    unfolding pixels_worked
    counts = go call (D.drawn t).2
      where
        go : (c : Call) → total ≡ count_for c s.width s.height steps n → total ≡ pixels_worked a c s steps
        go C.Render k = k
        go (C.Redraw g) k = rw t k

    current : RedrawsFor a g d
    current _ r q = redraws s.width s.height steps n r src ws d (subst (λ (c : Call). Holds s.width s.height n d (drawn_of c s.width s.height steps n ws src)) q H)

    valid : ValidFor a g d
    valid _ = holds-valid s.width s.height n d _ H (go call (λ g q. (R.redraw g q).0.valid))
      where
        go : (c : Call) → ((g : Region) → c ≡ C.Redraw g → (k : ℕ) → k < n → ValidPicture (read s.width s.height ws (k * size s.width s.height))) → (k : ℕ) → ValidPicture (drawn_of c s.width s.height steps n ws src k)
        go C.Render old k = layers-valid s.width s.height steps n R.floods src R.ready.valid k
        go (C.Redraw r) old k = redrawn-layers-valid s.width s.height steps n R.floods src R.ready.valid (bounds_of r) ws (old r refl) k

  -- a refused one
  refused-counts : accepted? a ≡ false → total ≡ 0 → total ≡ pixels_worked a call s steps
  unfolding pixels_worked
  refused-counts e k = go call
    where
      go : (c : Call) → total ≡ pixels_worked a c s steps
      go C.Render = k
      go (C.Redraw g) = rw e k

  -- z is the scratch buffer after the work, z' after it was cleared
  pub promised : (z' : List ℕ) → a ≡ answered g → (accepted? a ≡ true → usable_of n ≡ n)
      → (accepted? a ≡ true → ReadyFor call (with s n) steps src ws scr)
      → Drawing (giving call (with s (usable_of n)) steps src ws scr) a d z total
      → z' ≡ if_accepted a (zeros z) z → Promised g a total d z'
  promised z' fa all R D fz = go (accepted? a) refl
    where
      said : total ≡ pixels_worked a call s steps → d ≡ if_drawn a g → z' ≡ if_accepted a (zeros scr) scr → RedrawsFor a g d → ValidFor a g d
          → Promised g a total d z'
      said c l y v w = record {
        answers = fa;
        number = ap (λ (x : Answer). number_of x) fa;
        place = ap (λ (x : Answer). place_of x) fa;
        counts = c;
        layers = l;
        cleared = y;
        redraws = v;
        valid = w;
      }

      go : (b : Bool) → accepted? a ≡ b → Promised g a total d z'
      go true t =
          let D' = subst (λ (m : ℕ). Drawing (giving call (with s m) steps src ws scr) a d z total) (all t) D in
          let z-is : z' ≡ zeros z = rw t at fz in said (counts t (R t) D') (if-accepted a _ _ _ t (bytes t (R t) D')) (if-accepted a _ _ _ t (z-is ∙ ap (λ (m : ℕ). replicate {A = ℕ} m 0) (D'.drawn t).1)) (current t (R t) D') (valid t (R t) D')
      go false t =
          let k = D.refused t in
          let z-is : z' ≡ z = rw t at fz in said (refused-counts t k.2) (if-refused a _ _ _ t k.0) (if-refused a _ _ _ t (z-is ∙ k.1)) (λ e. absurd (false≢true (sym t ∙ e))) (λ e. absurd (false≢true (sym t ∙ e)))
