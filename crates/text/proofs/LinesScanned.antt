-- Lines one after another, whatever is read from them; and the whole text. Assumes nothing.
use mathlib.Core.Path.{◌≡◌, refl, sym, ap, ◌∙◌}
use mathlib.Core.Bool.{Bool, true, false, cond}
use mathlib.Core.List.{List, [], ◌∷◌}
use Prim.Native.Nat.{ℕ, suc, ◌+◌, ◌-◌, ◌≤◌, ◌<◌}
use native.Mathlib.Omega.{arith}
use lib.Dec.{eqb, ltb}
use lib.ListN.{length, take, drop, length-drop}
use lib.Seq.{length-take-le}
use borrow.Author.Tests.{eq-eqb, ne_eqb, lt-ltb, le-ltb}
use Rattle.std.specs.Prelude.{Option, Some, None, Result, Ok, Err}
use Rattle.filter.specs.Limits.{longest_text}
use Rattle.text_field.specs.Split.{split, index_of}
use Rattle.text_field.proofs.SplitByIndex.{split-count, piece-le, piece-more, piece-last}
use Rattle.text.specs.Lines.{lines_of}
use Rattle.text.specs.Document.{canvas_in}
use Rattle.text.specs.Texts.{current, Text, refused, blank_draft, draft_lines, canvas_lines, text_lines, text_of, step_lines_of}
use Rattle.text.specs.Reading.{text_in, steps_in, first_line, all_read, reading_of}
use Rattle.text.specs.Code.{empty_document, refused_at, whole_document, ended, document_lines, judged_as, judged_text}
use Rattle.text.specs.declared.Form.{Form}
use Rattle.text.specs.declared.Form.TheVariants as F
use Rattle.text.specs.declared.TextRefusal.{TextRefusal}
use Rattle.text.specs.declared.TextRefusal.TheVariants.{Line, Records}
use Rattle.text.specs.declared.Canvas.{Canvas}
use Rattle.text.specs.declared.Document.{Document}
use Rattle.text.specs.declared.Reading.{Reading}
use Rattle.text.proofs.DocumentIsDraft.{lines_are}

-- `lines_of` for one way of reading lines; o is the answer for the whole text s
module _ {A O : Type 0} (good : A → List (List ℕ) → Bool) (next : A → List (List ℕ) → A) (complete : A → ℕ → O) (refuse : ℕ → O) where
  lines_more : (a : A) (n : ℕ) (l : List ℕ) (ls : List (List ℕ)) {k : ℕ} → length ls ≡ suc k
      → lines_of good next complete refuse a n (l ∷ ls) ≡ cond (good a (split 9 l)) (lines_of good next complete refuse (next a (split 9 l)) (n + 1) ls) (refuse n)
  unfolding lines_of
  lines_more a n l [] e = absurd (omega arith)
  lines_more a n l (m ∷ ls) e = refl

  -- what a loop over the lines keeps: a has been read, line n begins at `at` and ends at e
  pub record Scanned (s : List ℕ) (o : O) (at : ℕ) (a : A) (n e : ℕ) : Type 0 where
    pub inside : at ≤ length s
    pub before : at ≤ e
    pub within : e ≤ length s
    pub end : e ≡ at + index_of 10 (drop at s)
    pub few : n ≤ at + 2
    pub is : lines_of good next complete refuse a n (split 10 (drop at s)) ≡ o

  pub scanned-none : (s : List ℕ) (at : ℕ) (a : A) (n e : ℕ) → at ≤ length s → n ≤ at + 2 → e ≡ at + index_of 10 (drop at s) → Scanned s (lines_of good next complete refuse a n (split 10 (drop at s))) at a n e
  scanned-none s at a n e h k r = record { inside = h; before = omega arith; within = piece-le 10 s at e h r; end = r; few = k; is = refl }

  module _ (s : List ℕ) (o : O) (at : ℕ) (a : A) (n e : ℕ) (I : Scanned s o at a n e) where
    scanned-line : e < length s → cond (good a (split 9 (take (e - at) (drop at s)))) (lines_of good next complete refuse (next a (split 9 (take (e - at) (drop at s)))) (n + 1) (split 10 (drop (e + 1) s))) (refuse n) ≡ o
    scanned-line h =
        sym (lines_more a n (take (e - at) (drop at s)) (split 10 (drop (e + 1) s)) (split-count 10 (drop (e + 1) s)))
        ∙ rw (piece-more 10 s at e I.inside I.end h) at I.is

    pub scanned-bad : {g : Bool} {r : O} → e < length s → g ≡ good a (split 9 (take (e - at) (drop at s))) → g ≡ false → r ≡ refuse n → r ≡ o
    scanned-bad h x y d = d ∙ rw (sym x ∙ y) at (scanned-line h)

    pub scanned-more : {g : Bool} {b : A} {f : ℕ} → e < length s → g ≡ good a (split 9 (take (e - at) (drop at s))) → g ≡ true → b ≡ next a (split 9 (take (e - at) (drop at s)))
        → f ≡ (e + 1) + index_of 10 (drop (e + 1) s) → Scanned s o (e + 1) b (n + 1) f
    scanned-more {g} {b} {f} h x y z q = record {
      inside = omega arith;
      before = omega arith;
      within = piece-le 10 s (e + 1) f (omega arith) q;
      end = q;
      few = omega (arith, I.few, I.before);
      is = rw z (rw (sym x ∙ y) at (scanned-line h));
    }

    scanned-last : length s ≤ e → cond (eqb (length (take (e - at) (drop at s))) 0) (complete a n) (refuse n) ≡ o
    unfolding lines_of
    scanned-last h = rw (piece-last 10 s at e I.inside I.end h) at I.is

    last-length : length s ≤ e → length (take (e - at) (drop at s)) ≡ e - at
    last-length h = length-take-le (e - at) (drop at s) (omega (arith, length-drop at s, I.within))

    pub scanned-open : {r : O} → length s ≤ e → at < e → r ≡ refuse n → r ≡ o
    scanned-open h k d =
        let q : length (take (e - at) (drop at s)) ≡ 0 → ⊥ = λ z. omega (arith, last-length h) in
        d ∙ rw (ne_eqb (length (take (e - at) (drop at s))) 0 q) at (scanned-last h)

    pub scanned-end : {r : O} → length s ≤ e → e ≤ at → r ≡ complete a n → r ≡ o
    scanned-end h k d =
        let q : length (take (e - at) (drop at s)) ≡ 0 = omega (arith, last-length h) in
        d ∙ rw (eq-eqb (length (take (e - at) (drop at s))) 0 q) at (scanned-last h)

-- after the last line
pub ended-short : (from : ℕ) (d : Document) (n : ℕ) {o : Result Reading TextRefusal} → (d.rows ≡ d.height → ⊥) → o ≡ refused_at n → o ≡ ended from d n
ended-short from d n h e = e ∙ rw (ne_eqb d.rows d.height h)

pub ended-whole : (from : ℕ) (d : Document) (n : ℕ) → d.rows ≡ d.height → whole_document from d ≡ ended from d n
ended-whole from d n h = rw (eq-eqb d.rows d.height h)

-- the text of a sheet
pub text-long : (s : List ℕ) {o : Result Reading TextRefusal} → longest_text < length s → o ≡ refused_at 0 → o ≡ judged_text F.Sheet s
unfolding text_of
text-long s h d = d ∙ rw (lt-ltb longest_text (length s))

text-more : (l : List ℕ) (ls : List (List ℕ)) {k : ℕ} → length ls ≡ suc k
    → text_lines current (l ∷ ls) ≡ canvas_lines current (canvas_in (split 9 l)) ls
unfolding text_lines
text-more l [] e = absurd (omega arith)
text-more l (m ∷ ls) e = refl

module _ (s : List ℕ) (e : ℕ) (short : length s ≤ longest_text) (first : e ≡ 0 + index_of 10 (drop 0 s)) where
  pub text-one : length s ≤ e → text_of current s ≡ refused 1
  unfolding text_of text_lines
  text-one k = rw (le-ltb longest_text (length s), piece-last 10 s 0 e (omega arith) first k)

  abbrev canvas : Option Canvas
  canvas = canvas_in (split 9 (take (e - 0) (drop 0 s)))

  pub text-first : e < length s → text_of current s ≡ canvas_lines current canvas (split 10 (drop (e + 1) s))
  unfolding text_of
  text-first k = rw (le-ltb longest_text (length s), piece-more 10 s 0 e (omega arith) first k, text-more (take (e - 0) (drop 0 s)) (split 10 (drop (e + 1) s)) (split-count 10 (drop (e + 1) s)))

  module _ {o : Result Reading TextRefusal} where
    pub text-open : length s ≤ e → o ≡ refused_at 1 → o ≡ judged_text F.Sheet s
    text-open k d = d ∙ sym (ap (λ (t : Text). judged_as t (first_line F.Sheet s)) (text-one k))

    pub text-canvas : e < length s → canvas ≡ None → o ≡ refused_at 1 → o ≡ judged_text F.Sheet s
    text-canvas more g d = d ∙ sym (ap (λ (t : Text). judged_as t (first_line F.Sheet s)) (text-first more ∙ ap (λ (x : Option Canvas). canvas_lines current x (split 10 (drop (e + 1) s))) g))

    pub text-lines : {c : Canvas} {p : Document} → e < length s → canvas ≡ Some c → p ≡ empty_document c.width c.height → o ≡ document_lines (e + 1) p 2 (split 10 (drop (e + 1) s)) → o ≡ judged_text F.Sheet s
    text-lines {c} more g q d =
        d ∙ ap (λ (z : Document). document_lines (e + 1) z 2 (split 10 (drop (e + 1) s))) q
        ∙ lines_are (e + 1) (blank_draft c.width c.height) 2 (split 10 (drop (e + 1) s))
        ∙ ap (λ (k : ℕ). judged_as (draft_lines current (blank_draft c.width c.height) 2 (split 10 (drop (e + 1) s))) k) (ap (λ (k : ℕ). k + 1) first)
        ∙ sym (ap (λ (t : Text). judged_as t (first_line F.Sheet s)) (text-first more ∙ ap (λ (x : Option Canvas). canvas_lines current x (split 10 (drop (e + 1) s))) g))

-- step lines alone
pub alone : (s : List ℕ) {o : Result Reading TextRefusal} {p : Document} → p ≡ empty_document 0 0 → o ≡ document_lines 0 p 1 (split 10 (drop 0 s)) → o ≡ judged_text F.Lines s
unfolding step_lines_of
alone s q d = d ∙ ap (λ (z : Document). document_lines 0 z 1 (split 10 (drop 0 s))) q ∙ lines_are 0 (blank_draft 0 0) 1 (split 10 s)

pub judged-as : (form : Form) (s : List ℕ) {f : Form} {o : Result Reading TextRefusal} → form ≡ f → o ≡ judged_text f s → o ≡ judged_text form s
judged-as form s e d = d ∙ ap (λ (g : Form). judged_text g s) (sym e)

-- room for the steps
module _ (form : Form) (s : List ℕ) (room : ℕ) where
  pub room-refused : {e : TextRefusal} → judged_text form s ≡ Err e → Err e ≡ reading_of form s room
  unfolding reading_of
  room-refused {e} h = go (text_in current form s).good h
    where
      go : (b : Bool) → cond b (Ok (all_read (text_in current form s) (first_line form s))) (refused_at (text_in current form s).line) ≡ Err e
          → Err e ≡ cond b (cond (ltb room (length (steps_in form s))) (Err Records) (Ok (all_read (text_in current form s) (first_line form s)))) (Err (Line (text_in current form s).line))
      go true q = absurd (cc)
      go false q = sym q

  module _ {r : Reading} (e : judged_text form s ≡ Ok r) where
    judged-good : (reading_of form s room ≡ cond (ltb room (length (steps_in form s))) (Err Records) (Ok r)) × (r.count ≡ length (steps_in form s))
    unfolding reading_of
    judged-good = go (text_in current form s).good e
      where
        go : (b : Bool) → cond b (Ok (all_read (text_in current form s) (first_line form s))) (refused_at (text_in current form s).line) ≡ Ok r
            → (cond b (cond (ltb room (length (steps_in form s))) (Err Records) (Ok (all_read (text_in current form s) (first_line form s)))) (Err (Line (text_in current form s).line)) ≡ cond (ltb room (length (steps_in form s))) (Err Records) (Ok r)) × (r.count ≡ length (steps_in form s))
        go true q = let t : all_read (text_in current form s) (first_line form s) ≡ r = cc in (rw t, sym (ap (λ (x : Reading). x.count) t))
        go false q = absurd (cc)

    pub room-less : room < r.count → Err Records ≡ reading_of form s room
    room-less h = let g = judged-good in sym (g.0 ∙ rw (lt-ltb room (length (steps_in form s)) (omega (arith, g.1))))

    pub room-enough : r.count ≤ room → Ok r ≡ reading_of form s room
    room-enough h = let g = judged-good in sym (g.0 ∙ rw (le-ltb room (length (steps_in form s)) (omega (arith, g.1))))
