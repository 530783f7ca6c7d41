-- What the answers to lines come to. Assumes nothing.
use Prim.Native.Nat.{ℕ}
use mathlib.Core.Path.{◌≡◌, ap, ◌∙◌}
use Rattle.filter.specs.Answers.{Answer}
use Rattle.text.specs.Reading.{ReadAnswer}
use Rattle.capi.specs.declared.Redrawing.{Redrawing}
use Rattle.capi.specs.Lines.{replied}

-- the reply by the answers that are promised
pub reply-is : {r : Redrawing} (said said' : ReadAnswer) (a a' : Answer) (n : ℕ) (f : Answer → ℕ) → r ≡ replied said a n → said ≡ said' → a ≡ a' → n ≡ f a → r ≡ replied said' a' (f a')
reply-is said said' a a' n f p e g k = p ∙ ap (λ (x : ReadAnswer). replied x a n) e ∙ ap (replied said' a) k ∙ ap (λ (x : Answer). replied said' x (f x)) g
