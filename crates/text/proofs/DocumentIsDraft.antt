-- A document is what the lines have given, with the count of its steps; and what a line adds to it. Assumes nothing.
use mathlib.Core.Path.{◌≡◌, refl, sym, ap}
use mathlib.Core.Bool.{Bool, true, false, cond, ◌&&◌, ◌||◌}
use mathlib.Core.List.{List, [], ◌∷◌}
use Prim.Native.Nat.{ℕ, ◌+◌, ◌<◌}
use native.Mathlib.Omega.{arith}
use lib.Dec.{eqb, ltb}
use lib.ListN.{length, get_or, drop, length-append}
use borrow.Author.Tests.{ne_eqb}
use Rattle.std.specs.Prelude.{Option, Some, None, is_some, unwrap_or, option_map, Result}
use Rattle.filter.specs.declared.Step.{Step}
use Rattle.filter.specs.Steps.{blank_step}
use Rattle.text_field.specs.Words.{bytes}
use Rattle.text_field.specs.Field.{same}
use Rattle.text_field.specs.Split.{split}
use Rattle.text_step.specs.ManyFields.{all_fields}
use Rattle.text_step.specs.StepLine.{step_of}
use Rattle.text.specs.Document.{pixel?, stored_pixels}
use Rattle.text.specs.Lines.{lines_of}
use Rattle.text.specs.Texts.{Limits, current, Draft, Text, refused, accepted, with_step, with_row, step?, row?, line?, after, draft_lines}
use Rattle.text.specs.Code.{one_step_more, one_row_more, row_in, line_of, extends?, extended, refused_at, whole_document, document_lines, judged_as}
use Rattle.text.specs.declared.Document.{Document}
use Rattle.text.specs.declared.TextRefusal.{TextRefusal}
use Rattle.text.specs.declared.Reading.{Reading}

-- the step of a line
abbrev pub step_in : List (List ℕ) → Step
step_in fs = unwrap_or (step_of fs) blank_step

abbrev pub document_of : Draft → Document
document_of d = record { width = d.width; height = d.height; rows = d.rows; count = length d.steps; pixels = d.pixels }

-- a row line
row-good : (d : Draft) (fs : List (List ℕ)) → is_some (row_in (document_of d) fs) ≡ row? d fs
unfolding row_in row? stored_pixels
row-good d fs =
    go (one_row_more (document_of d)) _ (ltb d.rows d.height) (same (get_or fs 0 []) (bytes "row")) (eqb (length fs) (1 + d.width)) (all_fields pixel? (drop 1 fs))
  where
    go : (x : List ℕ → Document) (ps : List ℕ) (a b c e : Bool) → is_some (cond {A = Option Document} (a && (b && c)) (option_map x (cond e (Some ps) None)) None) ≡ (a && (b && (c && e)))
    go x ps true true true true = refl
    go x ps true true true false = refl
    go x ps true true false e = refl
    go x ps true false c e = refl
    go x ps false b c e = refl

row_next : (d : Draft) (fs : List (List ℕ)) → row? d fs ≡ true → unwrap_or (row_in (document_of d) fs) (document_of d) ≡ document_of (with_row d fs)
unfolding row_in row? stored_pixels
row_next d fs h =
    go _ (ltb d.rows d.height) (same (get_or fs 0 []) (bytes "row")) (eqb (length fs) (1 + d.width)) (all_fields pixel? (drop 1 fs)) h
  where
    go : (ps : List ℕ) (a b c e : Bool) → (a && (b && (c && e))) ≡ true
        → unwrap_or (cond {A = Option Document} (a && (b && c)) (option_map (one_row_more (document_of d)) (cond e (Some ps) None)) None) (document_of d)
        ≡ one_row_more (document_of d) (unwrap_or (cond e (Some ps) None) d.pixels)
    go ps true true true true q = refl
    go ps true true true false q = absurd (cc)
    go ps true true false e q = absurd (cc)
    go ps true false c e q = absurd (cc)
    go ps false b c e q = absurd (cc)

-- a line
extends-is : (d : Draft) (fs : List (List ℕ)) → extends? (document_of d) fs ≡ line? current d fs
unfolding line_of line?
extends-is d fs = go (step? current d fs)
  where
    go : (b : Bool) → is_some (cond {A = Option Document} b (Some (one_step_more (document_of d))) (row_in (document_of d) fs)) ≡ (b || row? d fs)
    go true = refl
    go false = row-good d fs

abbrev counted : Draft → ℕ → Document
counted d k = record { width = d.width; height = d.height; rows = d.rows; count = k; pixels = d.pixels }

extended-is : (d : Draft) (fs : List (List ℕ)) → line? current d fs ≡ true → extended (document_of d) fs ≡ document_of (after current d fs)
unfolding line_of line? after
extended-is d fs h = go (step? current d fs) h
  where
    go : (b : Bool) → (b || row? d fs) ≡ true
        → unwrap_or (cond {A = Option Document} b (Some (one_step_more (document_of d))) (row_in (document_of d) fs)) (document_of d)
        ≡ document_of (cond b (with_step d (step_in fs)) (with_row d fs))
    go true q = ap (λ (k : ℕ). counted d k) (sym (length-append d.steps (step_in fs ∷ [])))
    go false q = row_next d fs q

-- all lines
pub lines_are : (from : ℕ) (d : Draft) (n : ℕ) (ls : List (List ℕ)) → document_lines from (document_of d) n ls ≡ judged_as (draft_lines current d n ls) from
unfolding lines_of
lines_are from d n [] = refl
lines_are from d n (l ∷ []) = go (eqb (length l) 0) (eqb d.rows d.height)
  where
    go : (b c : Bool) → cond {A = Result Reading TextRefusal} b (cond {A = Result Reading TextRefusal} c (whole_document from (document_of d)) (refused_at n)) (refused_at n)
        ≡ judged_as (cond {A = Text} b (cond {A = Text} c (accepted d) (refused n)) (refused n)) from
    go true true = refl
    go true false = refl
    go false c = refl
lines_are from d n (l ∷ m ∷ ls) = rw (extends-is d (split 9 l)) (go (line? current d (split 9 l)) refl (lines_are from (after current d (split 9 l)) (n + 1) (m ∷ ls)))
  where
    go : (b : Bool) → line? current d (split 9 l) ≡ b
        → document_lines from (document_of (after current d (split 9 l))) (n + 1) (m ∷ ls) ≡ judged_as (draft_lines current (after current d (split 9 l)) (n + 1) (m ∷ ls)) from
        → cond {A = Result Reading TextRefusal} b (document_lines from (extended (document_of d) (split 9 l)) (n + 1) (m ∷ ls)) (refused_at n)
        ≡ judged_as (cond {A = Text} b (draft_lines current (after current d (split 9 l)) (n + 1) (m ∷ ls)) (refused n)) from
    go true p ih = rw (extended-is d (split 9 l) p) ih
    go false p ih = refl

-- a line by what it is
pub and-false : (b : Bool) → (b && false) ≡ false
and-false true = refl
and-false false = refl

module _ (lim : Limits) (d : Draft) (fs : List (List ℕ)) where
  pub step_is : (x y z : Bool) → eqb d.rows 0 ≡ x → ltb (length d.steps) lim.steps ≡ y → is_some (step_of fs) ≡ z → step? lim d fs ≡ (x && (y && z))
  step_is x y z p q r = rw (p, q, r)

  pub step-none : is_some (step_of fs) ≡ false → step? lim d fs ≡ false
  step-none r = rw (r, and-false (ltb (length d.steps) lim.steps), and-false (eqb d.rows 0))

  pub step-late : 0 < d.rows → step? lim d fs ≡ false
  step-late h = rw (ne_eqb d.rows 0 (λ e. omega arith))

  pub line-is : (a c : Bool) → step? lim d fs ≡ a → row? d fs ≡ c → line? lim d fs ≡ (a || c)
  unfolding line?
  line-is a c p q = rw (p, q)

  pub line_row : step? lim d fs ≡ false → line? lim d fs ≡ row? d fs
  unfolding line?
  line_row p = rw p

  pub after-step : step? lim d fs ≡ true → after lim d fs ≡ with_step d (step_in fs)
  unfolding after
  after-step p = rw p

  pub after_row : step? lim d fs ≡ false → after lim d fs ≡ with_row d fs
  unfolding after
  after_row p = rw p

-- after a row no step comes
pub frozen : (lim : Limits) (d : Draft) (n : ℕ) (ls : List (List ℕ)) → 0 < d.rows → (draft_lines lim d n ls).good ≡ true → (draft_lines lim d n ls).steps ≡ d.steps
unfolding lines_of
frozen lim d n [] p h = absurd (cc)
frozen lim d n (l ∷ []) p h = go (eqb (length l) 0) (eqb d.rows d.height) h
  where
    go : (b c : Bool) → (cond b (cond c (accepted d) (refused n)) (refused n)).good ≡ true → (cond b (cond c (accepted d) (refused n)) (refused n)).steps ≡ d.steps
    go true true q = refl
    go true false q = absurd (cc)
    go false c q = absurd (cc)
frozen lim d n (l ∷ m ∷ ls) p h =
    let e = step-late lim d (split 9 l) p in
    let e1 = line_row lim d (split 9 l) e in
    let e2 = after_row lim d (split 9 l) e in
    rw (e1, e2) (go (row? d (split 9 l)) (λ q. frozen lim (with_row d (split 9 l)) (n + 1) (m ∷ ls) (omega arith) q) (rw (e1, e2) at h))
  where
    go : (b : Bool) → ((draft_lines lim (with_row d (split 9 l)) (n + 1) (m ∷ ls)).good ≡ true → (draft_lines lim (with_row d (split 9 l)) (n + 1) (m ∷ ls)).steps ≡ d.steps)
        → (cond b (draft_lines lim (with_row d (split 9 l)) (n + 1) (m ∷ ls)) (refused n)).good ≡ true → (cond b (draft_lines lim (with_row d (split 9 l)) (n + 1) (m ∷ ls)) (refused n)).steps ≡ d.steps
    go true ih q = ih q
    go false ih q = absurd (cc)
