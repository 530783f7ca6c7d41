-- A call's number is 0 exactly where its sheet is drawn: a text that is refused has no steps, and no call draws such a sheet. So any other number
-- leaves every byte as it was. Assumes nothing.
use mathlib.Core.Path.{◌≡◌, refl, sym, ap, ◌∙◌}
use mathlib.Core.Bool.{false}
use mathlib.Core.Logic.{⊎_elim}
use lib.Dec.{eqb}
use Rattle.filter.specs.Answers.{Answer, accepted?}
use Rattle.std.specs.Prelude.{Ok, Err}
use Rattle.text.specs.declared.TextRefusal.TheVariants.{Line, Records}
use Rattle.text.specs.Reading.{ReadAnswer, answer_of}
use Rattle.lines.specs.Lines.{GivenText, reading_in, answer_in}
use Rattle.lines.proofs.AllStepsCount.{unread-refused, read-or-none}
use Rattle.capi.specs.Lines.{number_after, number_for}

not-zero : (said : ReadAnswer) (a : Answer) → accepted? a ≡ false → eqb (number_after said a) 0 ≡ false
unfolding accepted?
not-zero (Ok u) a e = e
not-zero (Err (Line n)) a e = refl
not-zero (Err Records) a e = refl

pub zero-drawn : (t : GivenText) → eqb (number_for t) 0 ≡ accepted? (answer_in t)
unfolding number_for accepted?
zero-drawn t =
    ⊎_elim
    (λ e. ap (λ (said : ReadAnswer). eqb (number_after said (answer_in t)) 0) e)
    (λ z.
    let f = unread-refused t.form t.text t.width t.height t.call t.source t.workspace t.scratch z in
    not-zero (answer_of (reading_in t.form t.text)) (answer_in t) f ∙ sym f)
    (read-or-none t.form t.text t.width t.height)
