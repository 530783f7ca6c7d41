-- The list that is read from a text holds its steps, so that all of them count; a text that is refused has none, and is drawn by no call.
-- Assumes nothing.
use Prim.Native.Nat.{ℕ, ◌≤◌, ◌<◌}
use mathlib.Core.Path.{◌≡◌, refl}
use mathlib.Core.Bool.{Bool, true, false, cond}
use mathlib.Core.Logic.{◌⊎◌, inl, inr}
use mathlib.Core.List.{List}
use native.Mathlib.Omega.{arith}
use lib.Dec.{ltb}
use lib.ListN.{length, take, drop, replicate, length-append, length-take, length-drop, length-replicate}
use Rattle.std.specs.Prelude.{Result, Ok, Err, IfOk}
use Rattle.filter.specs.declared.Call.{Call}
use Rattle.filter.specs.declared.Call.TheVariants as C
use Rattle.filter.specs.declared.Step.{Step}
use Rattle.filter.specs.Limits.{most_steps}
use Rattle.filter.specs.Steps.{blank_step}
use Rattle.filter.specs.Bytes.{bytes_of, layers_of}
use Rattle.filter.specs.Answers.{Answer, accepted?}
use Rattle.filter.specs.Checks.{answer_of}
use Rattle.filter.proofs.PassedChecks.{else-accepted}
use Rattle.checks.proofs.Acceptance.{accepted-sizes}
use Rattle.text.specs.declared.Form.{Form}
use Rattle.text.specs.declared.Reading.{Reading}
use Rattle.text.specs.declared.TextRefusal.{TextRefusal}
use Rattle.text.specs.declared.TextRefusal.TheVariants.{Line, Records}
use Rattle.text.specs.Texts.{current}
use Rattle.text.specs.Reading.{text_in, steps_in, first_line, all_read, reading_of, count_of}
use Rattle.text.specs.Reading as R
use Rattle.text.proofs.ReadingBounded.{ReadingBounded, reading-bounded}
use Rattle.render.specs.Promise.{taken, drawn_bytes}
use Rattle.lines.specs.Lines.{reading_in, list_in, sheet_in, giving_text, answer_in, layers_in}

count-steps : (form : Form) (s : List ℕ) (room : ℕ) → count_of (reading_of form s room) ≤ length (steps_in form s)
unfolding reading_of
count-steps form s room = go (text_in current form s).good (ltb room (length (steps_in form s)))
  where
    go : (a b : Bool) → count_of (cond a (cond b (Err Records) (Ok (all_read (text_in current form s) (first_line form s)))) (Err (Line (text_in current form s).line))) ≤ length (steps_in form s)
    go true true = omega arith
    go true false = omega arith
    go false b = omega arith

count-few : (r : Result Reading TextRefusal) → IfOk r ReadingBounded → count_of r ≤ most_steps
count-few (Ok r) b = b.few
count-few (Err e) b = omega arith

module _ (form : Form) (s : List ℕ) (w h : ℕ) where
  abbrev count : ℕ
  count = count_of (reading_in form s)

  pub all-counted : taken (sheet_in form s w h) (list_in form s) ≡ count
  all-counted =
      omega
      (arith, length-append (take count (steps_in form s)) (drop count (replicate most_steps blank_step)), length-take count (steps_in form s), length-drop count (replicate most_steps blank_step), length-replicate {A = Step} most_steps blank_step, count-steps form s most_steps, count-few _ (reading-bounded form s most_steps))

  -- the layers of an accepted full render
  pub render-bytes : (a : Answer) (src ws scr : List ℕ) → accepted? a ≡ true → layers_in a (giving_text form s C.Render w h src ws scr) ≡ bytes_of w h count (layers_of w h (list_in form s) count src)
  unfolding drawn_bytes
  render-bytes a src ws scr t = rw (t, all-counted)

  -- an accepted call has a step
  pub answer-some : (call : Call) (src ws scr : List ℕ) → accepted? (answer_in (giving_text form s call w h src ws scr)) ≡ true → 0 < count
  unfolding answer_of
  answer-some call src ws scr e =
      omega (arith, all-counted, (accepted-sizes w h (taken (sheet_in form s w h) (list_in form s)) (length src) (length ws) (length scr) (else-accepted _ _ e).0).some)

  -- a text without steps, refused or not, is drawn by no call
  pub unread-refused : (call : Call) (src ws scr : List ℕ) → count ≡ 0 → accepted? (answer_in (giving_text form s call w h src ws scr)) ≡ false
  unread-refused call src ws scr z = go (accepted? (answer_in (giving_text form s call w h src ws scr))) refl
    where
      go : (b : Bool) → accepted? (answer_in (giving_text form s call w h src ws scr)) ≡ b → b ≡ false
      go true e = absurd (omega (arith, answer-some call src ws scr e))
      go false e = refl

  -- it was read, or has no steps
  pub read-or-none : (R.answer_of (reading_in form s) ≡ Ok tt) ⊎ (count ≡ 0)
  read-or-none = go (reading_in form s)
    where
      go : (r : Result Reading TextRefusal) → (R.answer_of r ≡ Ok tt) ⊎ (count_of r ≡ 0)
      go (Ok r) = inl refl
      go (Err e) = inr refl
