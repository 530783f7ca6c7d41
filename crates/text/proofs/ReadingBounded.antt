-- What is read stays within its bounds. Assumes nothing.
use mathlib.Core.Path.{◌≡◌, refl, subst}
use mathlib.Core.Bool.{Bool, true, false, cond}
use mathlib.Core.List.{List, [], ◌∷◌}
use Prim.Native.Nat.{ℕ, ◌+◌, ◌≤◌}
use native.Mathlib.Omega.{arith}
use lib.Dec.{eqb, ltb}
use lib.ListN.{length}
use Rattle.std.specs.Prelude.{Option, Some, None, Result, Ok, Err, IfOk}
use Rattle.filter.specs.Limits.{most_steps, longest_text_side, longest_text, text_picture}
use Rattle.text_field.specs.Split.{split}
use Rattle.text.specs.Document.{canvas_in}
use Rattle.text.specs.Lines.{lines_of}
use Rattle.text.specs.Texts.{current, Text, refused, blank_draft, draft_lines, canvas_lines, text_lines, text_of, step_lines_of}
use Rattle.text.specs.Reading.{text_in, steps_in, first_line, all_read, reading_of}
use Rattle.text.specs.Code.{DocumentFits, empty_document, extends?, extended, refused_at, whole_document, document_lines, judged_as, judged_text}
use Rattle.text.specs.declared.Form.{Form}
use Rattle.text.specs.declared.Form.TheVariants as F
use Rattle.text.specs.declared.Canvas.{Canvas}
use Rattle.text.specs.declared.TextRefusal.{TextRefusal}
use Rattle.text.specs.declared.TextRefusal.TheVariants.{Line, Records}
use Rattle.text.specs.declared.Document.{Document}
use Rattle.text.specs.declared.Reading.{Reading}
use Rattle.text.proofs.LineAdded.{sized-line, sized-empty, canvas-small}
use Rattle.text.proofs.DocumentIsDraft.{lines_are}

pub record ReadingBounded (r : Reading) : Type 0 where
  pub wide : r.width ≤ longest_text_side
  pub high : r.height ≤ longest_text_side
  pub few : r.count ≤ most_steps
  pub pixels : length r.pixels ≡ text_picture

-- what is read, if the text is not refused
abbrev Bounded : Result Reading TextRefusal → Type 0
Bounded r = IfOk r ReadingBounded

lines-bounded : (from : ℕ) (d : Document) (n : ℕ) (ls : List (List ℕ)) → DocumentFits d → Bounded (document_lines from d n ls)
unfolding lines_of
lines-bounded from d n [] f = tt
lines-bounded from d n (l ∷ []) f = go (eqb (length l) 0) (eqb d.rows d.height)
  where
    go : (b c : Bool) → Bounded (cond {A = Result Reading TextRefusal} b (cond {A = Result Reading TextRefusal} c (whole_document from d) (refused_at n)) (refused_at n))
    go true true = record { wide = f.wide; high = f.high; few = f.few; pixels = f.pixels }
    go true false = tt
    go false c = tt
lines-bounded from d n (l ∷ m ∷ ls) f = go (extends? d (split 9 l)) (lines-bounded from (extended d (split 9 l)) (n + 1) (m ∷ ls) (sized-line d (split 9 l) f))
  where
    go : (b : Bool) → Bounded (document_lines from (extended d (split 9 l)) (n + 1) (m ∷ ls)) → Bounded (cond {A = Result Reading TextRefusal} b (document_lines from (extended d (split 9 l)) (n + 1) (m ∷ ls)) (refused_at n))
    go true q = q
    go false q = tt

draft-bounded : (from w h n : ℕ) (ls : List (List ℕ)) → w ≤ longest_text_side → h ≤ longest_text_side → Bounded (judged_as (draft_lines current (blank_draft w h) n ls) from)
draft-bounded from w h n ls a b = subst Bounded (lines_are from (blank_draft w h) n ls) (lines-bounded from (empty_document w h) n ls (sized-empty w h a b))

canvas-bounded : (from : ℕ) (fs : List (List ℕ)) (c : Option Canvas) (ls : List (List ℕ)) → canvas_in fs ≡ c → Bounded (judged_as (canvas_lines current c ls) from)
canvas-bounded from fs (Some c) ls e = let t = canvas-small fs e in draft-bounded from c.width c.height 2 ls t.0 t.1
canvas-bounded from fs None ls e = tt

text-bounded : (from : ℕ) (ls : List (List ℕ)) → Bounded (judged_as (text_lines current ls) from)
unfolding text_lines
text-bounded from [] = tt
text-bounded from (l ∷ []) = tt
text-bounded from (l ∷ m ∷ ls) = canvas-bounded from (split 9 l) (canvas_in (split 9 l)) (m ∷ ls) refl

sheet-bounded : (s : List ℕ) → Bounded (judged_text F.Sheet s)
unfolding text_of
sheet-bounded s = go (ltb longest_text (length s))
  where
    go : (b : Bool) → Bounded (judged_as (cond {A = Text} b (refused 0) (text_lines current (split 10 s))) (first_line F.Sheet s))
    go true = tt
    go false = text-bounded (first_line F.Sheet s) (split 10 s)

alone-bounded : (s : List ℕ) → Bounded (judged_text F.Lines s)
unfolding step_lines_of
alone-bounded s = draft-bounded 0 0 0 1 (split 10 s) (omega arith) (omega arith)

judged-bounded : (form : Form) (s : List ℕ) → Bounded (judged_text form s)
judged-bounded F.Sheet s = sheet-bounded s
judged-bounded F.Lines s = alone-bounded s

pub reading-bounded : (form : Form) (s : List ℕ) (room : ℕ) → Bounded (reading_of form s room)
unfolding reading_of
reading-bounded form s room = go (text_in current form s).good (ltb room (length (steps_in form s))) (judged-bounded form s)
  where
    go : (b c : Bool) → Bounded (cond {A = Result Reading TextRefusal} b (Ok (all_read (text_in current form s) (first_line form s))) (refused_at (text_in current form s).line))
        → Bounded (cond {A = Result Reading TextRefusal} b (cond {A = Result Reading TextRefusal} c (Err Records) (Ok (all_read (text_in current form s) (first_line form s)))) (Err (Line (text_in current form s).line)))
    go true true q = tt
    go true false q = q
    go false c q = q
