-- A line that adds a step or a row to what was read before. Assumes nothing.
use mathlib.Core.Path.{◌≡◌, refl, sym, ap, ◌∙◌}
use mathlib.Core.Bool.{Bool, true, false, cond, ◌&&◌}
use mathlib.Core.List.{List, [], ◌++◌, map}
use Prim.Native.Nat.{ℕ, ◌+◌, ◌*◌, ◌≤◌, ◌<◌}
use native.Mathlib.Nat.{mul-le-mul_right, add-mul}
use native.Mathlib.Omega.{arith}
use lib.Dec.{eqb, ltb}
use lib.ListN.{length, get_or, take, drop, length-drop}
use lib.Seq.{length-take-le}
use borrow.Author.Tests.{eqb-true, ltb-true, leb-true}
use Rattle.std.specs.Prelude.{Option, Some, None, is_some, unwrap_or, option_map}
use Rattle.filter.specs.Limits.{most_steps, longest_text_side, text_picture}
use Rattle.text_field.specs.Words.{bytes}
use Rattle.text_field.specs.Field.{same, hex_of, given?, value_in}
use Rattle.text_step.specs.ManyFields.{all_fields, flattened, stored}
use Rattle.text_step.specs.Fields.{whole_field, whole_at}
use Rattle.text_step.specs.StepLine.{step_of}
use Rattle.text_step.proofs.FieldsGathered.{FieldsGathered, fields-gathered-more}
use Rattle.text_step.proofs.StoredBytes.{stored_next, stored-length, flattened-more, flattened-fours}
use Rattle.text.specs.Document.{pixel?, bytes_in, pixel_of, stored_pixels, side?, canvas_in}
use Rattle.text.specs.Code.{DocumentFits, empty_document, one_step_more, one_row_more, row_pixels, row_in, step_fits, line_of, extended}
use Rattle.text.specs.declared.Canvas.{Canvas}
use Rattle.text.specs.declared.Document.{Document}
use Rattle.window.proofs.Truths.{and_left, and_right}

abbrev pub row_word : List ℕ
row_word = bytes "row"

-- the pixels of a row
abbrev pub held : List ℕ → ℕ → List (List ℕ) → List ℕ
held d at vs = stored d at (flattened vs)

pub pixels-bad : (d : List ℕ) (at : ℕ) (fs : List (List ℕ)) → all_fields pixel? fs ≡ false → None ≡ stored_pixels d at fs
unfolding stored_pixels
pixels-bad d at fs e = rw e

pub pixels-end : (d : List ℕ) (at : ℕ) (fs : List (List ℕ)) {ps : List ℕ} → (all_fields pixel? fs ≡ true) × (ps ≡ held d at (map pixel_of fs)) → Some ps ≡ stored_pixels d at fs
unfolding stored_pixels
pixels-end d at fs (e, v) = rw (e, v)

pub pixels-more : (d : List ℕ) (at : ℕ) (fs : List (List ℕ)) (n i x : ℕ) (ps : List ℕ) {next : List ℕ} → FieldsGathered pixel? pixel_of (held d at) fs n i ps
    → at + 4 * n ≤ length d → i < n → hex_of (get_or fs i []) ≡ Some x → next ≡ stored ps (at + 4 * i) (bytes_in x) → FieldsGathered pixel? pixel_of (held d at) fs n (i + 1) next
pixels-more d at fs n i x ps {next} I r h e q =
    let t : List ℕ = flattened (map pixel_of (take i fs)) in
    let l : length t ≡ 4 * i = flattened-fours pixel_of (λ f. refl) (take i fs) ∙ ap (λ (k : ℕ). 4 * k) (length-take-le i fs (omega (arith, I.size))) in
    let k : at + length t + length (bytes_in x) ≤ length d = omega arith in
    let j : at + 4 * i ≡ at + length t = omega arith in
    fields-gathered-more pixel? pixel_of (held d at) fs n i ps I h (ap (λ (a : Option ℕ). given? a) e)
    (q ∙ ap (λ (y : List ℕ). stored y (at + 4 * i) (bytes_in x)) I.is ∙ ap (λ (z : ℕ). stored (stored d at t) z (bytes_in x)) j ∙ stored_next d at t (bytes_in x) k
    ∙ ap (λ (a : Option ℕ). stored d at (t ++ bytes_in (value_in a))) (sym e) ∙ ap (stored d at) (sym (flattened-more (map pixel_of (take i fs)) (pixel_of (get_or fs i [])))))

-- a row has room behind the rows before
pub row-line-room : (d : Document) → DocumentFits d → d.rows < d.height → 4 * (d.rows * d.width) + 4 * d.width ≤ text_picture
row-line-room d f h =
    let a : (d.rows + 1) * d.width ≤ longest_text_side * d.width = mul-le-mul_right d.width (omega (arith, f.high)) in
    omega (arith, f.wide, add-mul d.rows 1 d.width)

-- a document stays within its bounds
pixels-length : (d : Document) (fs : List (List ℕ)) (ps : List ℕ) → DocumentFits d → d.rows < d.height → length (drop 1 fs) ≡ d.width → row_pixels d fs ≡ Some ps → length ps ≡ text_picture
unfolding stored_pixels
pixels-length d fs ps f h w e = go (all_fields pixel? (drop 1 fs)) e
  where
    go : (b : Bool) → cond b (Some (stored d.pixels (4 * (d.rows * d.width)) (flattened (map pixel_of (drop 1 fs))))) None ≡ Some ps → length ps ≡ text_picture
    go true q =
        let r : stored d.pixels (4 * (d.rows * d.width)) (flattened (map pixel_of (drop 1 fs))) ≡ ps = cc in
        sym (ap length r) ∙ stored-length d.pixels (4 * (d.rows * d.width)) (flattened (map pixel_of (drop 1 fs))) (omega (arith, f.pixels, row-line-room d f h, flattened-fours pixel_of (λ g. refl) (drop 1 fs))) ∙ f.pixels
    go false q = absurd (cc)

sized_row : (d : Document) (fs : List (List ℕ)) → DocumentFits d → DocumentFits (unwrap_or (row_in d fs) d)
unfolding row_in
sized_row d fs f = go (ltb d.rows d.height) (same (get_or fs 0 []) row_word) (eqb (length fs) (1 + d.width)) (row_pixels d fs) refl refl refl
  where
    go : (a b c : Bool) (o : Option (List ℕ)) → ltb d.rows d.height ≡ a → eqb (length fs) (1 + d.width) ≡ c → row_pixels d fs ≡ o
        → DocumentFits (unwrap_or (cond {A = Option Document} (a && (b && c)) (option_map (one_row_more d) o) None) d)
    go true true true (Some ps) x y e =
        let h : d.rows < d.height = ltb-true d.rows d.height x in
        let l : length (drop 1 fs) ≡ d.width = omega (arith, eqb-true (length fs) (1 + d.width) y, length-drop 1 fs) in
        record { wide = f.wide; high = f.high; some = omega arith; few = f.few; pixels = pixels-length d fs ps f h l e }
    go true true true None x y e = f
    go true true false o x y e = f
    go true false c o x y e = f
    go false b c o x y e = f

pub sized-line : (d : Document) (fs : List (List ℕ)) → DocumentFits d → DocumentFits (extended d fs)
unfolding line_of
sized-line d fs f = go (step_fits d fs) refl
  where
    go : (b : Bool) → step_fits d fs ≡ b → DocumentFits (unwrap_or (cond {A = Option Document} b (Some (one_step_more d)) (row_in d fs)) d)
    go true x =
        let h : d.count < most_steps = ltb-true d.count most_steps (and_left (ltb d.count most_steps) (is_some (step_of fs)) (and_right (eqb d.rows 0) _ x)) in
        record { wide = f.wide; high = f.high; some = f.some; few = omega arith; pixels = f.pixels }
    go false x = sized_row d fs f

pub sized-empty : (w h : ℕ) → w ≤ longest_text_side → h ≤ longest_text_side → DocumentFits (empty_document w h)
sized-empty w h a b = record { wide = a; high = b; some = omega arith; few = omega arith; pixels = refl }

side-le : (r : Option ℕ) → side? r ≡ true → value_in r ≤ longest_text_side
side-le (Some n) e = leb-true n longest_text_side e
side-le None e = omega arith

pub canvas-small : (fs : List (List ℕ)) {c : Canvas} → canvas_in fs ≡ Some c → (c.width ≤ longest_text_side) × (c.height ≤ longest_text_side)
unfolding canvas_in
canvas-small fs {c} e = go (eqb (length fs) 3) (same (get_or fs 0 []) (bytes "canvas")) (side? (whole_field fs 1)) (side? (whole_field fs 2)) refl refl e
  where
    go : (t u v w : Bool) → side? (whole_field fs 1) ≡ v → side? (whole_field fs 2) ≡ w
        → cond (t && (u && (v && w))) (Some (record { width = whole_at fs 1; height = whole_at fs 2 })) None ≡ Some c → (c.width ≤ longest_text_side) × (c.height ≤ longest_text_side)
    go true true true true x y q = let r : record { width = whole_at fs 1; height = whole_at fs 2 } ≡ c = cc in rw (sym r) (side-le (whole_field fs 1) x, side-le (whole_field fs 2) y)
    go true true true false x y q = absurd (cc)
    go true true false w x y q = absurd (cc)
    go true false v w x y q = absurd (cc)
    go false u v w x y q = absurd (cc)
