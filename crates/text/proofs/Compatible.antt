-- Saved texts stay readable, and an earlier reader refuses a longer one at its seventeenth step. Assumes nothing.
use mathlib.Core.Bool.{Bool, true, false, cond, ◌&&◌, ◌||◌}
use mathlib.Core.Path.{◌≡◌, refl, ◌∙◌, ap}
use mathlib.Core.List.{List, [], ◌∷◌, ◌++◌}
use Prim.Native.Nat.{ℕ, ◌+◌, ◌-◌, ◌<◌, ◌≤◌}
use native.Mathlib.Omega.{arith}
use lib.Dec.{eqb, ltb}
use lib.ListN.{length, get_or, length-append}
use borrow.Author.Tests.{ltb-true, ltb-false, lt-ltb, le-ltb, eq-eqb}
use Rattle.std.specs.Prelude.{Option, Some, None, is_some}
use Rattle.std.proofs.lemmas.Slice.Eq.{bytes_eq-Decides}
use Rattle.text.specs.declared.Canvas.{Canvas}
use Rattle.text_field.specs.Words.{bytes}
use Rattle.text_field.specs.Field.{same}
use Rattle.text_field.specs.Split.{split}
use Rattle.text_step.specs.Kinds.{first_kind, kind_of}
use Rattle.text_step.specs.StepLine.{step_of}
use Rattle.text.specs.Document.{canvas_in}
use Rattle.text.specs.Lines.{lines_of}
use Rattle.text.specs.Texts.{current, earlier, Draft, Text, refused, accepted, completed, with_step, with_row, step?, row?, line?, after, draft_lines, blank_draft, canvas_lines, text_lines, text_of, step_lines_of}
use Rattle.text.specs.Reading.{text_in, earlier_line, earlier_place}
use Rattle.text.specs.declared.Form.{Form}
use Rattle.text.specs.declared.Form.TheVariants as F
use Rattle.text.proofs.DocumentIsDraft.{step_in, and-false, step_is, step-none, line-is, line_row, after-step, after_row, frozen}

abbrev row_word : List ℕ
row_word = bytes "row"

-- a line that is a step's is no row
row-no-step : (fs : List (List ℕ)) → get_or fs 0 [] ≡ row_word → is_some (step_of fs) ≡ false
unfolding step_of kind_of first_kind
row-no-step fs e = rw e

step-no-row : (d : Draft) (fs : List (List ℕ)) → is_some (step_of fs) ≡ true → row? d fs ≡ false
unfolding row?
step-no-row d fs h = go (same (get_or fs 0 []) row_word) refl
  where
    go : (b : Bool) → same (get_or fs 0 []) row_word ≡ b → row? d fs ≡ false
    go true p = absurd (let q : is_some (step_of fs) ≡ false = row-no-step fs ((bytes_eq-Decides _ _).0 p) in cc)
    go false p = rw (p, and-false (ltb d.rows d.height))

-- a fold over lines whose test is weaker gives the same wherever the stronger one accepts
module _ {A : Type 0} (good good' : A → List (List ℕ) → Bool) (next next' : A → List (List ℕ) → A) (complete : A → ℕ → Text)
    (agree : (a : A) (fs : List (List ℕ)) → good a fs ≡ true → (good' a fs ≡ true) × (next' a fs ≡ next a fs)) where
  lines_same : (a : A) (n : ℕ) (ls : List (List ℕ)) → (lines_of good next complete refused a n ls).good ≡ true
      → lines_of good' next' complete refused a n ls ≡ lines_of good next complete refused a n ls
  unfolding lines_of
  lines_same a n [] h = refl
  lines_same a n (l ∷ []) h = refl
  lines_same a n (l ∷ m ∷ ls) h = go (good a (split 9 l)) refl (λ q. lines_same (next a (split 9 l)) (n + 1) (m ∷ ls) q) h
    where
      go : (b : Bool) → good a (split 9 l) ≡ b
          → ((lines_of good next complete refused (next a (split 9 l)) (n + 1) (m ∷ ls)).good ≡ true → lines_of good' next' complete refused (next a (split 9 l)) (n + 1) (m ∷ ls) ≡ lines_of good next complete refused (next a (split 9 l)) (n + 1) (m ∷ ls))
          → (cond b (lines_of good next complete refused (next a (split 9 l)) (n + 1) (m ∷ ls)) (refused n)).good ≡ true
          → cond (good' a (split 9 l)) (lines_of good' next' complete refused (next' a (split 9 l)) (n + 1) (m ∷ ls)) (refused n) ≡ cond b (lines_of good next complete refused (next a (split 9 l)) (n + 1) (m ∷ ls)) (refused n)
      go true p ih q = let t = agree a (split 9 l) p in rw (t.0, t.1) (ih q)
      go false p ih q = absurd (cc)

-- where the earlier reader takes a line, the current one takes it for the same
same_step : (d : Draft) (fs : List (List ℕ)) → line? earlier d fs ≡ true → step? current d fs ≡ step? earlier d fs
unfolding line?
same_step d fs h = go (eqb d.rows 0) (ltb (length d.steps) earlier.steps) (is_some (step_of fs)) refl refl h
  where
    go : (x y z : Bool) → ltb (length d.steps) earlier.steps ≡ y → is_some (step_of fs) ≡ z → ((x && (y && z)) || row? d fs) ≡ true → (x && (ltb (length d.steps) current.steps && z)) ≡ (x && (y && z))
    go false y z q r e = refl
    go true true z q r e = let l : length d.steps < earlier.steps = ltb-true _ _ q in rw (lt-ltb (length d.steps) current.steps (omega arith))
    go true false false q r e = and-false (ltb (length d.steps) current.steps)
    go true false true q r e = absurd (let n : row? d fs ≡ false = step-no-row d fs r in cc)

agree : (d : Draft) (fs : List (List ℕ)) → line? earlier d fs ≡ true → (line? current d fs ≡ true) × (after current d fs ≡ after earlier d fs)
unfolding line? after
agree d fs h = let e = same_step d fs h in (rw e h, rw e)

canvas-same : (c : Option Canvas) (ls : List (List ℕ)) → (canvas_lines earlier c ls).good ≡ true → canvas_lines current c ls ≡ canvas_lines earlier c ls
canvas-same (Some c) ls h = lines_same (line? earlier) (line? current) (after earlier) (after current) completed agree _ 2 ls h
canvas-same None ls h = refl

text_same : (ls : List (List ℕ)) → (text_lines earlier ls).good ≡ true → text_lines current ls ≡ text_lines earlier ls
unfolding text_lines
text_same [] h = refl
text_same (l ∷ []) h = refl
text_same (l ∷ m ∷ ls) h = canvas-same (canvas_in (split 9 l)) (m ∷ ls) h

sheet-same : (s : List ℕ) → (text_of earlier s).good ≡ true → text_of current s ≡ text_of earlier s
unfolding text_of
sheet-same s h = go (ltb earlier.bytes (length s)) refl h
  where
    go : (b : Bool) → ltb earlier.bytes (length s) ≡ b → (cond b (refused 0) (text_lines earlier (split 10 s))).good ≡ true
        → cond (ltb current.bytes (length s)) (refused 0) (text_lines current (split 10 s)) ≡ cond b (refused 0) (text_lines earlier (split 10 s))
    go true p q = absurd (cc)
    go false p q = let l : length s ≤ earlier.bytes = ltb-false _ _ p in rw (le-ltb current.bytes (length s) (omega arith)) (text_same (split 10 s) q)

-- before the first row the earlier reader stops at the step for which it has no room
stops : (d : Draft) (n : ℕ) (ls : List (List ℕ)) → d.rows ≡ 0 → length d.steps ≤ earlier.steps → (draft_lines current d n ls).good ≡ true → earlier.steps < length (draft_lines current d n ls).steps
    → draft_lines earlier d n ls ≡ refused (n + (earlier.steps - length d.steps))
unfolding lines_of
stops d n [] r s h k = absurd (cc)
stops d n (l ∷ []) r s h k = go (eqb (length l) 0) (eqb d.rows d.height) h k
  where
    go : (b c : Bool) → (cond b (cond c (accepted d) (refused n)) (refused n)).good ≡ true → earlier.steps < length (cond b (cond c (accepted d) (refused n)) (refused n)).steps → cond b (cond c (accepted d) (refused n)) (refused n) ≡ refused (n + (earlier.steps - length d.steps))
    go true true q t = absurd (omega arith)
    go true false q t = absurd (cc)
    go false c q t = absurd (cc)
stops d n (l ∷ m ∷ ls) r s h k =
    go (is_some (step_of (split 9 l))) (ltb (length d.steps) earlier.steps) (row? d (split 9 l)) refl refl refl
    (λ b q t. stops (with_step d (step_in (split 9 l))) (n + 1) (m ∷ ls) r b q t)
  where
    more : length (d.steps ++ (step_in (split 9 l) ∷ [])) ≡ length d.steps + 1
    more = length-append d.steps (step_in (split 9 l) ∷ [])

    go : (z y c : Bool) → is_some (step_of (split 9 l)) ≡ z → ltb (length d.steps) earlier.steps ≡ y → row? d (split 9 l) ≡ c
        → (length (d.steps ++ (step_in (split 9 l) ∷ [])) ≤ earlier.steps → (draft_lines current (with_step d (step_in (split 9 l))) (n + 1) (m ∷ ls)).good ≡ true
        → earlier.steps < length (draft_lines current (with_step d (step_in (split 9 l))) (n + 1) (m ∷ ls)).steps
        → draft_lines earlier (with_step d (step_in (split 9 l))) (n + 1) (m ∷ ls) ≡ refused (n + 1 + (earlier.steps - length (d.steps ++ (step_in (split 9 l) ∷ [])))))
        → draft_lines earlier d n (l ∷ m ∷ ls) ≡ refused (n + (earlier.steps - length d.steps))
    -- a step, and there is room for it in both
    go true true c p q t ih =
        let b : length d.steps < earlier.steps = ltb-true _ _ q in
        let e = step_is earlier d (split 9 l) true true true (eq-eqb d.rows 0 r) q p in
        let f = step_is current d (split 9 l) true true true (eq-eqb d.rows 0 r) (lt-ltb (length d.steps) current.steps (omega arith)) p in
        let e1 = line-is earlier d (split 9 l) true _ e refl in
        let f1 = line-is current d (split 9 l) true _ f refl in
        let e2 = after-step earlier d (split 9 l) e in
        let f2 = after-step current d (split 9 l) f in
        let w : n + 1 + (earlier.steps - length (d.steps ++ (step_in (split 9 l) ∷ []))) ≡ n + (earlier.steps - length d.steps) = omega (arith, more) in
        rw (e1, e2) (ih (omega (arith, more)) (rw (f1, f2) at h) (rw (f1, f2) at k) ∙ ap refused w)
    -- a step, and the earlier reader has no room: it is no row either
    go true false c p q t ih =
        let b : earlier.steps ≤ length d.steps = ltb-false _ _ q in
        let e = step_is earlier d (split 9 l) true false true (eq-eqb d.rows 0 r) q p in
        let e1 = line-is earlier d (split 9 l) false false e (step-no-row d (split 9 l) p) in
        let w : n ≡ n + (earlier.steps - length d.steps) = omega arith in
        rw e1 (ap refused w)
    -- a row: no step comes any more
    go false y true p q t ih =
        let f = step-none current d (split 9 l) p in
        let f1 = line_row current d (split 9 l) f ∙ t in
        let f2 = after_row current d (split 9 l) f in
        absurd (omega (arith, k, ap length (frozen current (with_row d (split 9 l)) (n + 1) (m ∷ ls) (omega arith) (rw (f1, f2) at h)), (rw (f1, f2) at k)))
    -- neither
    go false y false p q t ih =
        let f = step-none current d (split 9 l) p in
        let f1 = line_row current d (split 9 l) f ∙ t in
        absurd (let u = rw f1 at h in cc)

canvas-stops : (c : Option Canvas) (ls : List (List ℕ)) → (canvas_lines current c ls).good ≡ true → earlier.steps < length (canvas_lines current c ls).steps
    → canvas_lines earlier c ls ≡ refused (earlier_line F.Sheet)
canvas-stops (Some c) ls h k = stops (blank_draft c.width c.height) 2 ls refl (omega arith) h k
canvas-stops None ls h k = absurd (cc)

text-stops : (ls : List (List ℕ)) → (text_lines current ls).good ≡ true → earlier.steps < length (text_lines current ls).steps → text_lines earlier ls ≡ refused (earlier_line F.Sheet)
unfolding text_lines
text-stops [] h k = absurd (cc)
text-stops (l ∷ []) h k = absurd (cc)
text-stops (l ∷ m ∷ ls) h k = canvas-stops (canvas_in (split 9 l)) (m ∷ ls) h k

sheet-stops : (s : List ℕ) → (text_of current s).good ≡ true → earlier.steps < length (text_of current s).steps → text_of earlier s ≡ refused (earlier_place F.Sheet s)
unfolding text_of
sheet-stops s h k = go (ltb earlier.bytes (length s)) (ltb current.bytes (length s)) h k
  where
    go : (b c : Bool) → (cond c (refused 0) (text_lines current (split 10 s))).good ≡ true → earlier.steps < length (cond c (refused 0) (text_lines current (split 10 s))).steps
        → cond b (refused 0) (text_lines earlier (split 10 s)) ≡ refused (cond b 0 (earlier_line F.Sheet))
    go true c q t = refl
    go false false q t = text-stops (split 10 s) q t
    go false true q t = absurd (cc)

-- step lines alone
lines-alone : (s : List ℕ) → (step_lines_of earlier s).good ≡ true → step_lines_of current s ≡ step_lines_of earlier s
unfolding step_lines_of
lines-alone s h = lines_same (line? earlier) (line? current) (after earlier) (after current) completed agree (blank_draft 0 0) 1 (split 10 s) h

lines-stop : (s : List ℕ) → (step_lines_of current s).good ≡ true → earlier.steps < length (step_lines_of current s).steps → step_lines_of earlier s ≡ refused (earlier_place F.Lines s)
unfolding step_lines_of
lines-stop s h k = stops (blank_draft 0 0) 1 (split 10 s) refl (omega arith) h k

-- "Saved sheets stay readable unchanged."
pub stays-readable : (form : Form) (s : List ℕ) → (text_in earlier form s).good ≡ true → text_in current form s ≡ text_in earlier form s
stays-readable F.Sheet s h = sheet-same s h
stays-readable F.Lines s h = lines-alone s h

-- "Old readers refuse a new sheet by line at its seventeenth step, or at place 0 above 32,768 bytes, and never draw part of it."
pub earlier-refuses : (form : Form) (s : List ℕ) → (text_in current form s).good ≡ true → earlier.steps < length (text_in current form s).steps
    → text_in earlier form s ≡ refused (earlier_place form s)
earlier-refuses F.Sheet s h k = sheet-stops s h k
earlier-refuses F.Lines s h k = lines-stop s h k
