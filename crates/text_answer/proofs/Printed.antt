-- What is printed at each stage is what is printed for the text. Assumes nothing.
use mathlib.Core.Path.{◌≡◌, refl, sym, ap, ◌∙◌}
use mathlib.Core.Bool.{Bool, true, false, cond}
use mathlib.Core.List.{List, ◌++◌}
use Prim.Native.Nat.{ℕ, ◌+◌, ◌-◌, ◌*◌, ◌≤◌, ◌<◌}
use native.Mathlib.Omega.{arith}
use lib.ListN.{length, take, drop, replicate, length-append}
use lib.Seq.{take_at}
use borrow.Author.Tests.{le-leb, lt-leb}
use Rattle.pixel.specs.declared.Space.{Space}
use Rattle.filter.specs.declared.Call.TheVariants as C
use Rattle.filter.specs.Picture.{Picture}
use Rattle.filter.specs.Bytes.{size, read}
use Rattle.filter.specs.Answers.{Answer, number_of, place_of, accepted?}
use Rattle.text_step.specs.ManyFields.{stored}
use Rattle.text.specs.declared.Form.TheVariants as F
use Rattle.std.specs.Prelude.{Result}
use Rattle.text.specs.declared.TextRefusal.{TextRefusal}
use Rattle.text.specs.Reading.{count_of}
use Rattle.lines.specs.Lines.{reading_in, list_in, answer_in, layers_in}
use Rattle.lines.proofs.AllStepsCount.{answer-some, render-bytes}
use Rattle.text.specs.declared.Reading.{Reading}
use Rattle.text_print.specs.Output.{in_srgb, ok_text, refused_text}
use Rattle.text_print.specs.Code.{Put}
use Rattle.text_answer.specs.Answer.{text_render, last_layer, last_space, answer_text, sheet_text, reading_text, printed_of, printed_into}
use Rattle.text_answer.specs.Code.{answer_from}
use Rattle.text_answer.proofs.LastLayer.{last-read}

-- an answer
pub answer_ok : (a : Answer) (w h : ℕ) (p q : Picture) → accepted? a ≡ true → p ≡ q → ok_text w h p ≡ answer_text a w h q
unfolding answer_text
answer_ok a w h p q t e = rw (t, e)

pub answer-refused : (a : Answer) (w h : ℕ) (p : Picture) (n m : ℕ) → accepted? a ≡ false → n ≡ number_of a → m ≡ place_of a → refused_text n m ≡ answer_text a w h p
unfolding answer_text
answer-refused a w h p n m t e f = rw (t, e, f)

answer-same : (a : Answer) (w h : ℕ) (p q : Picture) → (accepted? a ≡ true → p ≡ q) → answer_text a w h p ≡ answer_text a w h q
unfolding answer_text
answer-same a w h p q e = go (accepted? a) e
  where
    go : (b : Bool) → (b ≡ true → p ≡ q) → cond b (ok_text w h p) (refused_text (number_of a) (place_of a)) ≡ cond b (ok_text w h q) (refused_text (number_of a) (place_of a))
    go true f = ap (ok_text w h) (f refl)
    go false f = refl

-- the n steps of a text, drawn into a workspace of zeros
module _ (s : List ℕ) (w h n : ℕ) (src d : List ℕ) (a : Answer) (steps : n ≡ count_of (reading_in F.Sheet s)) (zeros : d ≡ replicate (n * size w h) 0)
    (is : a ≡ answer_in (text_render s w h src d)) where
  pub drawn-some : accepted? a ≡ true → 0 < n
  drawn-some t = omega (arith, steps, answer-some F.Sheet s w h C.Render src d (replicate (2 * size w h) 0) (ap accepted? (sym is) ∙ t))

  pub drawn-text : (d' : List ℕ) → d' ≡ layers_in a (text_render s w h src d) → (q : Space) → q ≡ last_space s n → answer_from a q w h n d' ≡ sheet_text s w h n src
  unfolding sheet_text
  drawn-text d' e q f =
      ap (λ (x : Space). answer_from a x w h n d') f
      ∙ answer-same a w h (in_srgb (last_space s n) (read w h d' ((n - 1) * size w h))) (in_srgb (last_space s n) (last_layer s w h n src))
      (λ t. ap (in_srgb (last_space s n)) (last-read w h (list_in F.Sheet s) n src d' (drawn-some t) (e ∙ rw steps (render-bytes F.Sheet s w h a src d (replicate (2 * size w h) 0) t))))
      ∙ ap (λ (x : Answer). answer_text x w h (in_srgb (last_space s n) (last_layer s w h n src))) (is ∙ ap (λ (l : List ℕ). answer_in (text_render s w h src l)) zeros)

-- a text at the start of a buffer
module _ {t d d' : List ℕ} {n : ℕ} (p : Put t 0 d d' n) where
  starts : d' ≡ t ++ drop (0 + length t) d
  unfolding stored
  starts = p.is

  pub put-fits : n ≤ length d'
  put-fits = omega (arith, ap length starts, length-append t (drop (0 + length t) d), p.ends)

  pub put-taken : take n d' ≡ t
  put-taken = ap (take n) starts ∙ take_at t (drop (0 + length t) d) n (omega (arith, p.ends))

-- the answer to a text
module _ (s : List ℕ) {r : Result Reading TextRefusal} {d d' : List ℕ} {n : ℕ} (is : r ≡ reading_in F.Sheet s) (p : Put (reading_text s r) 0 d d' n) where
  text-is : reading_text s r ≡ printed_of s
  unfolding printed_of
  text-is = ap (reading_text s) is

  pub printed-length : n ≡ length (printed_of s)
  printed-length = omega (arith, p.ends, ap length text-is)

  pub printed-stored : (out : List ℕ) {out' : List ℕ} {m : ℕ} → n ≤ length out → Put (take n d') 0 out out' m → out' ≡ printed_into out s
  printed-stored out h q = rw (le-leb (length (printed_of s)) (length out) (omega (arith, printed-length))) (q.is ∙ ap (stored out 0) (put-taken p ∙ text-is))

  pub printed-kept : (out : List ℕ) → length out < n → out ≡ printed_into out s
  printed-kept out h = rw (lt-leb (length (printed_of s)) (length out) (omega (arith, printed-length)))
