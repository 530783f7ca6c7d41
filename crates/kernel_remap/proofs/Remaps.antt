-- The three tables of four maps, filled line by line; a valid pixel finds in them what the rules say. Assumes nothing.
use mathlib.Core.Path.{◌≡◌, refl, ◌∙◌, ap}
use mathlib.Core.Bool.{Bool, true, false, cond}
use mathlib.Core.List.{List}
use mathlib.Core.Logic.{⊎_elim}
use Prim.Native.Nat.{ℕ, ◌+◌, ◌-◌, ◌*◌, ◌≤◌, ◌<◌}
use native.Mathlib.Omega.{arith}
use lib.Dec.{eqb}
use lib.ListN.{length, get_or, take}
use Rattle.std.proofs.Common.{get_or-take}
use Rattle.window.specs.Store.{Filled}
use Rattle.window.proofs.Store.{lt-or-le}
use Rattle.pixel.specs.declared.Pixel.{Pixel}
use Rattle.pixel.specs.declared.Space.{Space}
use Rattle.pixel.specs.Alpha.{premultiplied, unpremultiplied, Valid, Bytes}
use Rattle.pixel.specs.Remap.{remapped}
use Rattle.pixel.specs.Space.{space_maps}
use Rattle.pixel.specs.Convert.{pair_of}
use Rattle.pixel.specs.Word.{Packed}
use Rattle.pixel.proofs.PaintedRows.{pixel-is}
use Rattle.kernel_remap.specs.Code.{seen_colour, unpremultiplied_at, line_entry, table_entry, LinesFilled}
use Rattle.kernel_remap.specs.Remaps.{maps_in, looked_up, seen_by, Remaps}
use Rattle.kernel_remap.proofs.TableLines.{line_other}

-- another account of a pixel that is held as one number
pub packed-as : (p q : Pixel) (v : ℕ) → p ≡ q → Packed p v → Packed q v
packed-as p q v e h = rw e at h

-- the map of channel k
abbrev MapOf : List ℕ → ℕ → List ℕ → Type 0
MapOf maps k map = (u : ℕ) → u < 256 → get_or map u 0 ≡ get_or maps (256 * k + u) 0

module _ (maps line : List ℕ) (a : ℕ) (la : a < 256) (bytes : (i : ℕ) → get_or line i 0 < 256) where
  -- an entry of the line of table k, which starts at o and is made by its map
  line-in : (map : List ℕ) (k o c : ℕ) (d d' : List ℕ) → MapOf maps k map → o ≡ 65536 * k + 256 * a → c ≤ a
      → Filled (λ i. line_entry map line (get_or maps (768 + a) 0) (i - o)) o (o + (a + 1)) d d'
      → get_or d' (65536 * k + 256 * a + c) 0 ≡ table_entry maps k (get_or line c 0) a
  line-in map k o c d d' em eo l F =
      let at : o + c - o ≡ c = omega arith in
      rw (← eo) (F.inside (o + c) (omega arith) (omega arith) ∙ rw (at, em _ (bytes c)) refl)

  pub lines-filled : (red green blue d d1 d2 d3 : List ℕ) → MapOf maps 0 red → MapOf maps 1 green → MapOf maps 2 blue
      → Filled (λ i. line_entry red line (get_or maps (768 + a) 0) (i - 256 * a)) (256 * a) (256 * a + (a + 1)) d d1
      → Filled (λ i. line_entry green line (get_or maps (768 + a) 0) (i - (65536 + 256 * a))) (65536 + 256 * a) (65536 + 256 * a + (a + 1)) d1 d2
      → Filled (λ i. line_entry blue line (get_or maps (768 + a) 0) (i - (131072 + 256 * a))) (131072 + 256 * a) (131072 + 256 * a + (a + 1)) d2 d3
      → LinesFilled maps line a d d3
  lines-filled red green blue d d1 d2 d3 e0 e1 e2 F0 F1 F2 = record {
    inside = λ k c lk lc. ⊎_elim
        (λ h. let q : k ≡ 0 = omega arith in rw q (in-red c lc))
        (λ h. ⊎_elim
        (λ g. let q : k ≡ 1 = omega arith in rw q (in-green c lc))
        (λ g. let q : k ≡ 2 = omega arith in rw q (line-in blue 2 (131072 + 256 * a) c d2 d3 e2 (omega arith) lc F2))
        (lt-or-le k 2))
        (lt-or-le k 1);
    others = λ k b c lk lb ne lc.
        line_other _ 2 a k b c (131072 + 256 * a) d2 d3 la lb lc (omega arith) (omega arith) F2
        ∙ line_other _ 1 a k b c (65536 + 256 * a) d1 d2 la lb lc (omega arith) (omega arith) F1
        ∙ line_other _ 0 a k b c (256 * a) d d1 la lb lc (omega arith) (omega arith) F0;
    long = F2.long ∙ F1.long ∙ F0.long;
  }
    where
      in-green : (c : ℕ) → c ≤ a → get_or d3 (65536 * 1 + 256 * a + c) 0 ≡ table_entry maps 1 (get_or line c 0) a
      in-green c l =
          line_other _ 2 a 1 a c (131072 + 256 * a) d2 d3 la la (omega arith) (omega arith) (omega arith) F2
          ∙ line-in green 1 (65536 + 256 * a) c d1 d2 e1 (omega arith) l F1

      in-red : (c : ℕ) → c ≤ a → get_or d3 (65536 * 0 + 256 * a + c) 0 ≡ table_entry maps 0 (get_or line c 0) a
      in-red c l =
          line_other _ 2 a 0 a c (131072 + 256 * a) d2 d3 la la (omega arith) (omega arith) (omega arith) F2
          ∙ line_other _ 1 a 0 a c (65536 + 256 * a) d1 d2 la la (omega arith) (omega arith) (omega arith) F1
          ∙ line-in red 0 (256 * a) c d d1 e0 (omega arith) l F0

-- the lines of the alphas before n are filled
pub record TablesFilled (to : Space) (inner maps : List ℕ) (n : ℕ) (d : List ℕ) : Type 0 where
  pub filled : (k a c : ℕ) → k < 3 → a < n → c ≤ a → get_or d (65536 * k + 256 * a + c) 0 ≡ table_entry maps k (unpremultiplied_at to inner a c) a

pub tables-filled-none : (to : Space) (inner maps d : List ℕ) → TablesFilled to inner maps 0 d
tables-filled-none to inner maps d = record { filled = λ k a c lk la lc. absurd (omega arith) }

-- one alpha more
pub tables-filled-more : (to : Space) (inner maps line₀ line : List ℕ) (n : ℕ) (d d' : List ℕ) → n < 256 → TablesFilled to inner maps n d
    → Filled (unpremultiplied_at to inner n) 0 (n + 1) line₀ line → LinesFilled maps (take (n + 1) line) n d d' → TablesFilled to inner maps (n + 1) d'
tables-filled-more to inner maps line₀ line n d d' ln R S L = record {
  filled = λ k a c lk la lc. ⊎_elim
      (λ h. L.others k a c lk (omega arith) (omega arith) (omega arith) ∙ R.filled k a c lk h lc)
      (λ h.
      let q : a ≡ n = omega arith in
      let lc' : c ≤ n = omega arith in
      rw q (L.inside k c lk lc' ∙ ap (λ (u : ℕ). table_entry maps k u n) (get_or-take (n + 1) line c 0 (omega arith) ∙ S.inside c (omega arith) (omega arith))))
      (lt-or-le a n);
}

module _ (to : Space) (inner maps d : List ℕ) (R : TablesFilled to inner maps 256 d) where
  -- a colour s, as it is seen, at the index i of the tables and j of the maps
  colour : (k i j c a s : ℕ) → k < 3 → a < 256 → c ≤ a → i ≡ 65536 * k + 256 * a + c → seen_colour to inner c a ≡ s → j ≡ 256 * k + unpremultiplied s a
      → get_or d i 0 ≡ premultiplied (get_or maps j 0) (get_or maps (768 + a) 0)
  colour k i j c a s lk la lc ei es ej = rw (ei, ej, ← es) (R.filled k a c lk la lc)

  found : (p : Pixel) → Valid p → Bytes p → looked_up d maps p ≡ remapped (maps_in maps) (seen_by to inner p)
  unfolding remapped
  found p v b = go (eqb (length inner) 0) refl
    where
      go : (t : Bool) → eqb (length inner) 0 ≡ t → looked_up d maps p ≡ remapped (maps_in maps) (cond t p (remapped (space_maps to) p))
      go true e = pixel-is (looked_up d maps p) (remapped (maps_in maps) p)
          (colour 0 _ _ p.r p.a p.r (omega arith) b.a v.r (omega arith) (rw e refl) (omega arith))
          (colour 1 _ _ p.g p.a p.g (omega arith) b.a v.g (omega arith) (rw e refl) (omega arith))
          (colour 2 _ _ p.b p.a p.b (omega arith) b.a v.b (omega arith) (rw e refl) (omega arith))
          refl
      go false e = pixel-is (looked_up d maps p) (remapped (maps_in maps) (remapped (space_maps to) p))
          (colour 0 _ _ p.r p.a (pair_of to p.r p.a) (omega arith) b.a v.r (omega arith) (rw e refl) (omega arith))
          (colour 1 _ _ p.g p.a (pair_of to p.g p.a) (omega arith) b.a v.g (omega arith) (rw e refl) (omega arith))
          (colour 2 _ _ p.b p.a (pair_of to p.b p.a) (omega arith) b.a v.b (omega arith) (rw e refl) (omega arith))
          refl

  pub tables-filled-all : length d ≡ 196608 → Remaps to inner maps d
  tables-filled-all e = record { long = e; found = found }
