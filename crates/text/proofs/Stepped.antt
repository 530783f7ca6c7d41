-- The steps of a text by their lines, and what the reader's list holds after n of them. Assumes nothing.
use mathlib.Core.Path.{◌≡◌, refl, sym, ap, ◌∙◌}
use mathlib.Core.Bool.{Bool, true, false, cond}
use mathlib.Core.List.{List, [], ◌∷◌, ◌++◌, map, append_assoc, append-nil}
use Prim.Native.Nat.{ℕ, zero, suc, ◌+◌, ◌-◌, ◌<◌, ◌≤◌}
use native.Mathlib.Nat.{add-zero}
use native.Mathlib.Numerals.{add-one}
use native.Mathlib.Omega.{arith}
use native.Mathlib.Decide.{dec_lt}
use lib.Dec.{eqb, ltb}
use lib.ListN.{length, get_or, take, drop, set, length-map, length-drop}
use lib.Seq.{take-suc, drop-cons, set_at, append_snoc, get_or-drop, get_or-take, length-take-le, drop-drop}
use borrow.Author.Tests.{lt-ltb, ltb-false}
use Rattle.std.specs.Prelude.{Option, Some, None, unwrap_or, Ok, Err, IfOk}
use Rattle.filter.specs.declared.Step.{Step}
use Rattle.filter.specs.Steps.{blank_step}
use Rattle.filter.specs.Limits.{longest_text}
use Rattle.text_field.specs.Split.{split, index_of}
use Rattle.text_field.proofs.SplitByIndex.{index-le, piece-more, piece-last, piece-first}
use Rattle.text_step.specs.StepLine.{step_of}
use Rattle.text.specs.Document.{canvas_in}
use Rattle.text.specs.Lines.{lines_of}
use Rattle.text.specs.Texts.{Limits, current, Draft, Text, refused, accepted, blank_draft, canvas_lines, with_step, with_row, step?, row?, line?, after, draft_lines, text_of, step_lines_of}
use Rattle.text.specs.Reading.{text_in, steps_in, line_after, line_at, first_line, all_read, reading_of}
use Rattle.text.specs.declared.Form.{Form}
use Rattle.text.specs.declared.Form.TheVariants as F
use Rattle.text.specs.declared.Canvas.{Canvas}
use Rattle.text.specs.declared.Reading.{Reading}
use Rattle.text.specs.declared.TextRefusal.TheVariants.{Line, Records}
use Rattle.text.proofs.DocumentIsDraft.{line-is, after-step, after_row, frozen}
use Rattle.text.proofs.LinesScanned.{text-one, text-first}

abbrev step_in : List ℕ → Step
step_in l = unwrap_or (step_of (split 9 l)) blank_step

-- the first k lines are steps, and give those behind the steps before
record Taken (before out : List Step) (ls : List (List ℕ)) : Type 0 where
  k : ℕ
  few : k < length ls
  is : out ≡ before ++ map step_in (take k ls)

taken_none : (before out : List Step) (l : List ℕ) (ls : List (List ℕ)) → out ≡ before → Taken before out (l ∷ ls)
taken_none before out l ls e = record { k = 0; few = omega arith; is = e ∙ sym (append-nil before) }

taken_more : (before out : List Step) (l : List ℕ) (ls : List (List ℕ)) → Taken (before ++ (step_in l ∷ [])) out ls → Taken before out (l ∷ ls)
taken_more before out l ls t = record { k = suc t.k; few = omega (arith, t.few); is = t.is ∙ append_assoc before (step_in l ∷ []) (map step_in (take t.k ls)) }

taken : (lim : Limits) (d : Draft) (n : ℕ) (ls : List (List ℕ)) → (draft_lines lim d n ls).good ≡ true → Taken d.steps (draft_lines lim d n ls).steps ls
unfolding lines_of
taken lim d n [] h = absurd (cc)
taken lim d n (l ∷ []) h = go (eqb (length l) 0) (eqb d.rows d.height) h
  where
    go : (b c : Bool) → (cond b (cond c (accepted d) (refused n)) (refused n)).good ≡ true → Taken d.steps (cond b (cond c (accepted d) (refused n)) (refused n)).steps (l ∷ [])
    go true true q = taken_none d.steps d.steps l [] refl
    go true false q = absurd (cc)
    go false c q = absurd (cc)
taken lim d n (l ∷ m ∷ ls) h = go (step? lim d (split 9 l)) (row? d (split 9 l)) refl refl (λ q. taken lim (with_step d (step_in l)) (n + 1) (m ∷ ls) q)
  where
    go : (a c : Bool) → step? lim d (split 9 l) ≡ a → row? d (split 9 l) ≡ c
        → ((draft_lines lim (with_step d (step_in l)) (n + 1) (m ∷ ls)).good ≡ true → Taken (d.steps ++ (step_in l ∷ [])) (draft_lines lim (with_step d (step_in l)) (n + 1) (m ∷ ls)).steps (m ∷ ls))
        → Taken d.steps (draft_lines lim d n (l ∷ m ∷ ls)).steps (l ∷ m ∷ ls)
    go true c p q ih =
        let e1 = line-is lim d (split 9 l) true c p q in
        let e2 = after-step lim d (split 9 l) p in
        rw (e1, e2) (taken_more d.steps _ l (m ∷ ls) (ih (rw (e1, e2) at h)))
    go false true p q ih =
        let e1 = line-is lim d (split 9 l) false true p q in
        let e2 = after_row lim d (split 9 l) p in
        rw (e1, e2) (taken_none d.steps _ l (m ∷ ls) (frozen lim (with_row d (split 9 l)) (n + 1) (m ∷ ls) (omega arith) (rw (e1, e2) at h)))
    go false false p q ih =
        let e1 = line-is lim d (split 9 l) false false p q in
        absurd (let u = rw e1 at h in cc)

-- a refused text has no step
unread : (lim : Limits) (d : Draft) (n : ℕ) (ls : List (List ℕ)) → (draft_lines lim d n ls).good ≡ false → (draft_lines lim d n ls).steps ≡ []
unfolding lines_of
unread lim d n [] h = refl
unread lim d n (l ∷ []) h = go (eqb (length l) 0) (eqb d.rows d.height) h
  where
    go : (b c : Bool) → (cond b (cond c (accepted d) (refused n)) (refused n)).good ≡ false → (cond b (cond c (accepted d) (refused n)) (refused n)).steps ≡ []
    go true true q = absurd (cc)
    go true false q = refl
    go false c q = refl
unread lim d n (l ∷ m ∷ ls) h = go (line? lim d (split 9 l)) (λ q. unread lim (after lim d (split 9 l)) (n + 1) (m ∷ ls) q) h
  where
    go : (b : Bool) → ((draft_lines lim (after lim d (split 9 l)) (n + 1) (m ∷ ls)).good ≡ false → (draft_lines lim (after lim d (split 9 l)) (n + 1) (m ∷ ls)).steps ≡ [])
        → (cond b (draft_lines lim (after lim d (split 9 l)) (n + 1) (m ∷ ls)) (refused n)).good ≡ false → (cond b (draft_lines lim (after lim d (split 9 l)) (n + 1) (m ∷ ls)) (refused n)).steps ≡ []
    go true ih q = ih q
    go false ih q = refl

draft-steps : (lim : Limits) (d : Draft) (n : ℕ) (ls : List (List ℕ)) → 0 < length (draft_lines lim d n ls).steps → Taken d.steps (draft_lines lim d n ls).steps ls
draft-steps lim d n ls h = go (draft_lines lim d n ls).good refl
  where
    go : (b : Bool) → (draft_lines lim d n ls).good ≡ b → Taken d.steps (draft_lines lim d n ls).steps ls
    go true e = taken lim d n ls e
    go false e = absurd (omega (arith, ap length (unread lim d n ls e)))

-- the steps of a text stand on the first lines after the canvas
abbrev Placed : Form → List ℕ → Type 0
Placed form s = (first_line form s ≤ length s) × Taken [] (steps_in form s) (split 10 (drop (first_line form s) s))

text-over : (s : List ℕ) → longest_text < length s → text_of current s ≡ refused 0
unfolding text_of
text-over s k = rw (lt-ltb longest_text (length s) k)

module _ (s : List ℕ) where
  abbrev end : ℕ
  end = 0 + index_of 10 (drop 0 s)

  placed-sheet : 0 < length (text_of current s).steps → Placed F.Sheet s
  placed-sheet h = go (dec_lt longest_text (length s)) (dec_lt end (length s))
    where
      behind : end < length s → (c : Option Canvas) → text_of current s ≡ canvas_lines current c (split 10 (drop (end + 1) s)) → Placed F.Sheet s
      behind l (Some c) q =
          let r : (text_of current s).steps ≡ (draft_lines current (blank_draft c.width c.height) 2 (split 10 (drop (end + 1) s))).steps = ap (λ (u : Text). u.steps) q in
          (omega arith, rw r (draft-steps current (blank_draft c.width c.height) 2 (split 10 (drop (end + 1) s)) (rw r at h)))
      behind l None q = absurd (omega (arith, ap (λ (u : Text). length u.steps) q))

      go : Dec (longest_text < length s) → Dec (end < length s) → Placed F.Sheet s
      go (yes k) more = absurd (omega (arith, ap (λ (u : Text). length u.steps) (text-over s k)))
      go (no k) (no l) = absurd (omega (arith, ap (λ (u : Text). length u.steps) (text-one s end (omega arith) refl (omega arith))))
      go (no k) (yes l) = behind l (canvas_in (split 9 (take (end - 0) (drop 0 s)))) (text-first s end (omega arith) refl l)

placed-lines : (s : List ℕ) → 0 < length (step_lines_of current s).steps → Placed F.Lines s
unfolding step_lines_of
placed-lines s h = (omega arith, draft-steps current (blank_draft 0 0) 1 (split 10 s) h)

placed : (form : Form) (s : List ℕ) → 0 < length (steps_in form s) → Placed form s
placed F.Sheet s h = placed-sheet s h
placed F.Lines s h = placed-lines s h

-- line n begins at line_at
at-line : (s : List ℕ) (from n : ℕ) → from ≤ length s → n < length (split 10 (drop from s)) → (line_at s from n ≤ length s) × (split 10 (drop (line_at s from n) s) ≡ drop n (split 10 (drop from s)))
unfolding line_at
at-line s from zero h k = (h, refl)
at-line s from (suc n) h k = go (at-line s from n h (omega arith)) (dec_lt (line_at s from n + index_of 10 (drop (line_at s from n) s)) (length s))
  where
    go : (line_at s from n ≤ length s) × (split 10 (drop (line_at s from n) s) ≡ drop n (split 10 (drop from s)))
        → Dec (line_at s from n + index_of 10 (drop (line_at s from n) s) < length s)
        → (line_after s (line_at s from n) ≤ length s) × (split 10 (drop (line_after s (line_at s from n)) s) ≡ drop (suc n) (split 10 (drop from s)))
    go (i, e) (yes l) = (
      omega arith,
      sym (ap (drop 1) (sym e ∙ piece-more 10 s (line_at s from n) (line_at s from n + index_of 10 (drop (line_at s from n) s)) i refl l)) ∙ drop-drop 1 n (split 10 (drop from s)) ∙ ap (λ (m : ℕ). drop m (split 10 (drop from s))) (add-one n),
    )
    go (i, e) (no l) =
        absurd (omega (arith, length-drop n (split 10 (drop from s)), ap length (sym e ∙ piece-last 10 s (line_at s from n) (line_at s from n + index_of 10 (drop (line_at s from n) s)) i refl (omega arith))))

get_d_map : (l : List (List ℕ)) (i : ℕ) (d : Step) → i < length l → get_or (map step_in l) i d ≡ step_in (get_or l i [])
get_d_map [] i d h = absurd (omega arith)
get_d_map (x ∷ l) zero d h = refl
get_d_map (x ∷ l) (suc i) d h = get_d_map l i d (omega arith)

-- step n of a text
module _ (form : Form) (s : List ℕ) (n at : ℕ) (below : n < length (steps_in form s)) (a : at ≡ line_at s (first_line form s) n) where
  abbrev lines : List (List ℕ)
  lines = split 10 (drop (first_line form s) s)

  place : Placed form s
  place = placed form s (omega arith)

  many : n < place.1.k
  many = omega (arith, ap length place.1.is, length-map (take place.1.k lines) step_in, length-take-le place.1.k lines (omega (arith, place.1.few)))

  there : (line_at s (first_line form s) n ≤ length s) × (split 10 (drop (line_at s (first_line form s) n) s) ≡ drop n lines)
  there = at-line s (first_line form s) n place.0 (omega (arith, many, place.1.few))

  pub step-inside : at ≤ length s
  step-inside = rw a there.0

  pub step_is : (e : ℕ) → e ≡ at + index_of 10 (drop at s) → unwrap_or (step_of (split 9 (take (e - at) (drop at s)))) blank_step ≡ get_or (steps_in form s) n blank_step
  step_is e h =
      let p : take (e - at) (drop at s) ≡ get_or lines n [] =
      sym (piece-first 10 s at e step-inside h) ∙ ap (λ (m : ℕ). get_or (split 10 (drop m s)) 0 []) a ∙ ap (λ (l : List (List ℕ)). get_or l 0 []) there.1 ∙ get_or-drop n lines 0 [] ∙ ap (λ (m : ℕ). get_or lines m []) (add-zero n) in
      ap step_in (p ∙ sym (get_or-take place.1.k lines n [] many))
      ∙ sym (get_d_map (take place.1.k lines) n blank_step (omega (arith, many, length-take-le place.1.k lines (omega (arith, place.1.few)))))
      ∙ ap (λ (l : List Step). get_or l n blank_step) (sym place.1.is)

pub line-next : (s : List ℕ) (from n : ℕ) → line_at s from (n + 1) ≡ line_after s (line_at s from n)
unfolding line_at
line-next s from n = ap (line_at s from) (add-one n)

pub line-none : (s : List ℕ) (from : ℕ) → line_at s from 0 ≡ from
unfolding line_at
line-none s from = refl

-- what is read
first-le : (form : Form) (s : List ℕ) → first_line form s ≤ length s + 1
first-le F.Sheet s = omega (arith, index-le 10 s)
first-le F.Lines s = omega arith

-- of the room, the steps and the first line
abbrev pub Read : Form → List ℕ → ℕ → Reading → Type 0
Read form s room r = (r.count ≤ room) × (r.count ≤ length (steps_in form s)) × (0 < r.count → r.from ≡ first_line form s) × (r.from ≤ length s + 1)

pub reading-is : (form : Form) (s : List ℕ) (room : ℕ) → IfOk (reading_of form s room) (Read form s room)
unfolding reading_of
reading-is form s room = go (text_in current form s).good (ltb room (length (steps_in form s))) refl
  where
    go : (b c : Bool) → ltb room (length (steps_in form s)) ≡ c
        → IfOk (cond b (cond c (Err Records) (Ok (all_read (text_in current form s) (first_line form s)))) (Err (Line (text_in current form s).line))) (Read form s room)
    go true true e = tt
    go true false e = (ltb-false room (length (steps_in form s)) e, omega arith, λ h. refl, first-le form s)
    go false c e = tt

pub read-is : (form : Form) (s : List ℕ) (room : ℕ) {r : Reading} → reading_of form s room ≡ Ok r → Read form s room r
read-is form s room e = rw e at (reading-is form s room)

-- one record more
pub list-next : (xs ys : List Step) (n : ℕ) (x : Step) → n < length xs → n < length ys → x ≡ get_or xs n blank_step → set (take n xs ++ drop n ys) n x ≡ take (n + 1) xs ++ drop (n + 1) ys
list-next xs ys n x h k e =
    ap (λ (y : Step). set (take n xs ++ drop n ys) n y) e
    ∙ ap (λ (l : List Step). set (take n xs ++ l) n (get_or xs n blank_step)) (drop-cons ys n blank_step k)
    ∙ set_at (take n xs) (get_or ys n blank_step) (drop (suc n) ys) (get_or xs n blank_step) n (length-take-le n xs (omega arith))
    ∙ sym (append_snoc (take n xs) (get_or xs n blank_step) (drop (suc n) ys))
    ∙ ap (λ (l : List Step). l ++ drop (suc n) ys) (sym (take-suc xs n blank_step h))
    ∙ ap (λ (m : ℕ). take m xs ++ drop m ys) (sym (add-one n))
